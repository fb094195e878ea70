use Rattle.std.proofs.Common.{◌≡◌, ◌∙◌, ◌++◌, Some, ap, arith, refl, sym}
use Rattle.std.proofs.lemmas.Bool.Decides.{nat_tests}
use Rattle.nb_map.specs.Handles.{seats_of}
use Rattle.nb_ffi.specs.Telling.IsJoin.{Joined, Kept}
use Rattle.nb_ffi.proofs.exports.handles.samvolip_join.Goals as goal

pub returns-then-not-can_join : goal.returns-then-not-can_join
returns-then-not-can_join c = Kept refl c.lend.result.now c.lend-2.result.now c.lend.ensures.value
    c.lend-2.ensures.value (grind (arith, nat_tests, c.can_join.ensures, c.if-not-can_join.true))
    (sym c.lend.ensures.value) (sym c.lend-2.ensures.value)

pub join-requires : goal.join-requires
join-requires c =
    let seat = c.lend.result.now in
    let other = c.lend-2.result.now in
    let here : c.lend-3.result.now ≡ seat =
    let e : Some seat ≡ Some c.lend-3.result.now = c.lend-3.ensures.value in cc in
    let there : c.take.result.value ≡ other =
    let e : Some other ≡ Some c.take.result.value = c.take.ensures.taken in cc in
    record {
      one = ap (λ handle. handle.map) (c.into_inner.ensures ∙ there)
          ∙ sym (c.requires.one seat other c.lend.ensures.value c.lend-2.ensures.value)
          ∙ sym (ap (λ handle. handle.map) here);
    }

pub returns : goal.returns
returns c = Joined refl c.take.result.value (c.lend-2.ensures.value ∙ c.take.ensures.taken)
    c.take.ensures.empty (record {
      old = c.lend-3.result.now;
      new = c.join.new.self;
      was = c.lend.ensures.value ∙ c.lend-3.ensures.value;
      is = refl;
      holds = record {
        map = c.in-Ok.ensures.same.0;
        seat = c.in-Ok.ensures.same.1;
        reserve = c.in-Ok.ensures.joined
            ∙ ap (λ given. c.lend-3.result.now.reserve ++ seats_of given) c.into_inner.ensures;
      };
    })
