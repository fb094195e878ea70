use Rattle.std.proofs.Common.{◌≡◌, ◌∙◌, Err, Ok, OnErr, Result, arith, rules, subst, sym}
use Rattle.std.specs.FinMap.{len-entries}
use Rattle.std.proofs.lemmas.Grind.{common_steps}
use Rattle.nb_core.specs.Plans.{HasRoomFor}
use Rattle.nb_lines.specs.declared.faults.ProgramFault.TheVariants as fault
use Rattle.nb_map.specs.Renewing.{HasTooMany}
use Rattle.nb_texts.specs.Hashes.{key_for}
use Rattle.nb_texts.proofs.RestLemmas.{one-log, renewed-claims, renewed-whole}
use Rattle.nb_texts.proofs.StoppedLemmas.{renewed-index, rests-kept, too-many-texts}
use Rattle.nb_texts.proofs.catalog.Catalog.renew_for.Goals as goal

at-err : {T E P : Type 0} (r : Result T E) → P → OnErr r P
at-err (Ok x) holds = tt
at-err (Err e) holds = holds

pub returns-clause-rest : goal.returns-clause-rest
returns-clause-rest c =
    let before = c.args.self.now in
    let after = c.renew.new.handle in
    let shape = c.shape_for.result in
    let renewed = c.in_ok-renew.ensures.renewed in
    let begun = renewed.begun.begun in
    record {
      whole = renewed-whole shape before.handle after renewed;
      logs = one-log begun.whole after.seat after.reserve begun.logs;
      index = renewed-index (key_for before.hashing) before.texts shape before.handle after renewed
          c.requires.stopped.index;
      claims = renewed-claims shape before.handle after renewed;
      made = renewed.begun.made.shape ∙ c.shape_for.ensures.shape;
      room = subst (λ p. HasRoomFor p c.args.room) (sym renewed.begun.made.shape)
          c.shape_for.ensures.room;
      most = c.requires.most;
    }

pub returns-clause-shape : goal.returns-clause-shape
returns-clause-shape c =
    c.in_ok-renew.ensures.renewed.begun.made.shape ∙ c.shape_for.ensures.shape

pub returns-in_err-renew-clause-stopped : goal.returns-in_err-renew-clause-stopped
returns-in_err-renew-clause-stopped c =
    at-err c.from_residual.result
    (rests-kept c.args.self.now c.renew.new.handle c.requires.stopped c.in_err-renew.ensures.kept)

pub returns-in_err-renew-clause-full : goal.returns-in_err-renew-clause-full
returns-in_err-renew-clause-full c =
    let before = c.args.self.now in
    let told : c.from_residual.result ≡ Err fault.FullOfLines
    → HasTooMany c.shape_for.result before.handle = first_of (search rules, grind (arith, common_steps)) in
    λ is.
    let many = too-many-texts (key_for before.hashing) before.texts c.shape_for.result before.handle
    (told is) c.requires.stopped.index in
    omega (arith, many.1, many.2, c.shape_for.ensures.room, len-entries many.0)
