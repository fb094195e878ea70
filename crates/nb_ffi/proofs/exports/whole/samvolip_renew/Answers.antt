use Rattle.std.proofs.Common.{◌∙◌, Err, Some, ap, refl, sym}
use Rattle.std.proofs.lemmas.List.Elements.{All-cons}
use Rattle.nb_map.specs.Maps.{IsMine}
use Rattle.nb_ffi.specs.Whole.IsRenewing.{Full, Kept, Lacks, Renewed}
use Rattle.nb_ffi.proofs.Whole.{whole-unless}
use Rattle.nb_ffi.proofs.exports.whole.samvolip_renew.Goals as goal

pub returns-in-Ok-renew : goal.returns-in-Ok-renew
returns-in-Ok-renew c =
    let old = c.lend-handle.result.now in
    let new = c.renew.new.self in
    Renewed refl c.in-Ok.shape (sym c.checked.ensures ∙ c.in-Ok.is) (record {
      old = old;
      new = new;
      was = c.lend-handle.ensures.value;
      is = refl;
      holds = record {
        promised = c.in-Ok-renew.ensures.renewed;
        own = All-cons (IsMine new.map) new.seat new.reserve c.known.ensures.own c.known.ensures.reserve;
        whole = whole-unless old c.in-Ok-renew.ensures.all (λ is. absurd cc);
      };
    })

pub returns-in-Err-Full : goal.returns-in-Err-Full
returns-in-Err-Full c =
    let old = c.lend-handle.result.now in
    let is = ap Err c.in-Err-Full.field-0-is in
    Full refl c.in-Ok.shape (sym c.checked.ensures ∙ c.in-Ok.is)
    (old, c.lend-handle.ensures.value, whole-unless old c.in-Err-Full.ensures.all (λ lacks. absurd cc))
    (record {
      old = old;
      new = c.renew.new.self;
      was = c.lend-handle.ensures.value;
      is = refl;
      holds = (c.in-Err-Full.ensures.full is, c.in-Err-Full.ensures.kept);
    })

pub returns-in-Err-NotAll : goal.returns-in-Err-NotAll
returns-in-Err-NotAll c =
    let not_all = ap Err c.in-Err-NotAll.field-0-is in
    Lacks refl c.in-Ok.shape (sym c.checked.ensures ∙ c.in-Ok.is) (record {
      handle = c.lend-handle.result.now;
      was = c.lend-handle.ensures.value;
      lacks = c.in-Err-NotAll.ensures.all.0 not_all;
      same = ap Some (c.in-Err-NotAll.ensures.back not_all) ∙ sym c.lend-handle.ensures.value;
    })

pub returns-in-Err-OutOfMemory : goal.returns-in-Err-OutOfMemory
returns-in-Err-OutOfMemory c =
    let old = c.lend-handle.result.now in
    Kept refl c.in-Ok.shape (sym c.checked.ensures ∙ c.in-Ok.is) (
      old,
      c.lend-handle.ensures.value,
      whole-unless old c.in-Err-OutOfMemory.ensures.all (λ lacks. absurd cc),
    )
    (record {
      old = old;
      new = c.renew.new.self;
      was = c.lend-handle.ensures.value;
      is = refl;
      holds = c.in-Err-OutOfMemory.ensures.kept;
    })
