use Rattle.std.proofs.Common.{◌≡◌, ◌∙◌, All, refl, subst, sym}
use Rattle.std.proofs.lemmas.Result.{on_ok_weaker}
use Rattle.nb_core.specs.Plans.{HasRoomFor}
use Rattle.nb_map.specs.Handles.{HandleOf, seats_of}
use Rattle.nb_map.specs.Maps.{MapOf}
use Rattle.nb_map.specs.OneSeat.{held}
use Rattle.nb_texts.proofs.ClueLemmas.{parted-whole, readers-of}
use Rattle.nb_texts.proofs.LinesLemmas.{grown-none}
use Rattle.nb_texts.proofs.RestLemmas.{entered-gathered, gathered-claims, gathered-from, stopped-gathered}
use Rattle.nb_texts.proofs.StoppedLemmas.{gathered-indexed, gathered_in, joined-indexed, rests, rests-with, settled-indexed}
use Rattle.nb_texts.specs.Claims.{ClaimsOnly}
use Rattle.nb_texts.specs.Entering.{HasEntered, HasNoRoomFor}
use Rattle.nb_texts.specs.Hashes.{key_for}
use Rattle.nb_texts.specs.Lines.{lines_in}
use Rattle.nb_texts.specs.Memory.{shape_with_room}
use Rattle.nb_texts.specs.Stopped.{CanRest}
use Rattle.nb_texts.proofs.catalog.Catalog.enter.Goals as goal

pub join_readers-requires : goal.join_readers-requires
join_readers-requires g c =
    let before = c.args.self.now.handle in
    let parted = c.split_readers.new.handle in
    let after = c.enter_found-places.new.handle in
    let readers = c.in_ok-readers.readers.items in
    let readers' = c.enter_found-places.new.readers.items in
    let looked = c.enter_found-places.ensures.looked in
    let from = c.in_ok-readers.ensures.parted in
    let same = c.split_readers.ensures.same.0 in
    let rest = c.enter_found-places.ensures.rest in
    record {
      one = readers-of before parted after readers readers' from looked (rest.map ∙ same);
      all = parted-whole before parted after readers readers' c.requires.rest.whole same from looked rest;
    }

pub returns-clause-rest : goal.returns-clause-rest
returns-clause-rest g c =
    let looked = c.enter_found-places.ensures.looked in
    let before = c.args.self.now in
    let at_rest = c.requires.rest in
    let parted = c.split_readers.new.handle in
    let after = c.enter_found-places.new.handle in
    let last = c.join_readers.new.handle in
    let keys = key_for before.hashing in
    let texts' = c.enter_found-places.new.texts in
    let lines = lines_in c.args.block.now in
    let settled = c.in_ok-join_readers.ensures.settled in
    let kept = c.enter_found-places.ensures.rest in
    let same : last.map ≡ before.handle.map
    = c.in_ok-join_readers.ensures.map ∙ kept.map ∙ c.split_readers.ensures.same.0 in
    on_ok_weaker c.enter_found-places.result (λ entering.
    let entered = subst (λ (m : MapOf). HasEntered m.chain.shape keys parted.seat after.seat
    before.texts texts' lines) c.split_readers.ensures.same.0 entering in
    let done = gathered-from before.handle parted after last c.in_ok-readers.readers.items
    c.enter_found-places.new.readers.items settled.0 entered.made c.split_readers.ensures.same
    c.in_ok-readers.ensures.parted looked kept entered.logged settled.1 in
    let all = entered-gathered keys before.handle last before.texts texts' lines at_rest.logs
    parted.seat after.seat entered done at_rest.index in
    let claims = gathered-claims entered.made before.handle last at_rest.logs done entered.puts
    entered.claims at_rest.claims in
    record {
      whole = c.in_ok-join_readers.ensures.whole;
      logs = all.0;
      index = all.1;
      claims =
          subst (λ (m : MapOf). All (ClaimsOnly m.chain.shape (held last.seat)) (seats_of last))
          (sym same) claims;
      made =
          subst (λ (m : MapOf). m.chain.shape ≡ shape_with_room before.room) (sym same) at_rest.made;
      room =
          subst (λ (m : MapOf). HasRoomFor m.chain.shape before.room) (sym same) at_rest.room;
      most = at_rest.most;
    }) c.enter_found-places.ensures.entered

pub returns-clause-lines : goal.returns-clause-lines
returns-clause-lines g c =
    let looked = c.enter_found-places.ensures.looked in
    let before = c.args.self.now in
    let at_rest = c.requires.rest in
    let parted = c.split_readers.new.handle in
    let after = c.enter_found-places.new.handle in
    let last = c.join_readers.new.handle in
    let keys = key_for before.hashing in
    let texts' = c.enter_found-places.new.texts in
    let lines = lines_in c.args.block.now in
    let settled = c.in_ok-join_readers.ensures.settled in
    on_ok_weaker c.enter_found-places.result (λ entering.
    let entered = subst (λ (m : MapOf). HasEntered m.chain.shape keys parted.seat after.seat
    before.texts texts' lines) c.split_readers.ensures.same.0 entering in
    let done = gathered-from before.handle parted after last c.in_ok-readers.readers.items
    c.enter_found-places.new.readers.items settled.0 entered.made c.split_readers.ensures.same
    c.in_ok-readers.ensures.parted looked c.enter_found-places.ensures.rest
    entered.logged settled.1 in
    let all = entered-gathered keys before.handle last before.texts texts' lines at_rest.logs
    parted.seat after.seat entered done at_rest.index in
    all.2) c.enter_found-places.ensures.entered

pub returns-clause-map : goal.returns-clause-map
returns-clause-map g c =
    c.in_ok-join_readers.ensures.map ∙ c.enter_found-places.ensures.rest.map ∙ c.split_readers.ensures.same.0

pub returns-in_err-join_readers-clause-map : goal.returns-in_err-join_readers-clause-map
returns-in_err-join_readers-clause-map g c =
    c.in_err-join_readers.ensures.map ∙ c.enter_found-places.ensures.rest.map ∙ c.split_readers.ensures.same.0

pub returns-clause-full : goal.returns-clause-full
returns-clause-full g c = λ is.
    let looked = c.enter_found-places.ensures.looked in
    let before = c.args.self.now in
    let at_rest = c.requires.rest in
    let parted = c.split_readers.new.handle in
    let after = c.enter_found-places.new.handle in
    let last = c.join_readers.new.handle in
    let keys = key_for before.hashing in
    let lines = lines_in c.args.block.now in
    let settled = c.in_ok-join_readers.ensures.settled in
    let stopped = subst (λ (m : MapOf). HasNoRoomFor m.chain.shape keys parted.seat after.seat
    before.texts lines) c.split_readers.ensures.same.0 (c.enter_found-places.ensures.full is) in
    stopped-gathered keys before.handle last before.texts lines before.room at_rest.logs parted.seat
    after.seat stopped
    (λ made logged. (
      gathered-from before.handle parted after last c.in_ok-readers.readers.items
          c.enter_found-places.new.readers.items settled.0 made c.split_readers.ensures.same
          c.in_ok-readers.ensures.parted looked
          c.enter_found-places.ensures.rest logged settled.1,
      refl,
      refl,
    )) at_rest.index at_rest.claims at_rest.room at_rest.most

pub returns-in_err-readers-clause-grown : goal.returns-in_err-readers-clause-grown
returns-in_err-readers-clause-grown g c =
    grown-none (lines_in c.args.block.now) c.args.self.now.texts c.args.self.now.texts refl

pub returns-in_err-readers-clause-stopped : goal.returns-in_err-readers-clause-stopped
returns-in_err-readers-clause-stopped g c =
    let before = c.args.self.now in
    subst (λ (handle : HandleOf). CanRest (record before { handle = handle }))
    (sym c.in_err-readers.ensures.refused) (rests before c.requires.rest)

pub returns-in_err-join_readers-clause-stopped : goal.returns-in_err-join_readers-clause-stopped
returns-in_err-join_readers-clause-stopped g c =
    let before = c.args.self.now in
    let at_rest = c.requires.rest in
    let parted = c.split_readers.new.handle in
    let after = c.enter_found-places.new.handle in
    let last = c.join_readers.new.handle in
    let readers' = c.enter_found-places.new.readers.items in
    let keys = key_for before.hashing in
    let texts' = c.enter_found-places.new.texts in
    let kept = c.enter_found-places.ensures.rest in
    let back = c.in_err-join_readers.ensures.refused in
    let same : last.map ≡ before.handle.map
    = c.in_err-join_readers.ensures.map ∙ kept.map ∙ c.split_readers.ensures.same.0 in
    rests-with before texts' last (rests before at_rest) same c.in_err-join_readers.ensures.whole
    (joined-indexed keys texts' (gathered_in after readers') last back.0 back.1
    (gathered-indexed keys before.texts texts' before.handle parted after
    c.in_ok-readers.readers.items readers' at_rest.logs at_rest.index c.split_readers.ensures.same
    c.in_ok-readers.ensures.parted c.enter_found-places.ensures.looked kept
    c.enter_found-places.ensures.index))

pub returns-clause-stopped : goal.returns-clause-stopped
returns-clause-stopped g c =
    let before = c.args.self.now in
    let at_rest = c.requires.rest in
    let parted = c.split_readers.new.handle in
    let after = c.enter_found-places.new.handle in
    let last = c.join_readers.new.handle in
    let readers' = c.enter_found-places.new.readers.items in
    let keys = key_for before.hashing in
    let texts' = c.enter_found-places.new.texts in
    let kept = c.enter_found-places.ensures.rest in
    let settled = c.in_ok-join_readers.ensures.settled in
    let same : last.map ≡ before.handle.map
    = c.in_ok-join_readers.ensures.map ∙ kept.map ∙ c.split_readers.ensures.same.0 in
    rests-with before texts' last (rests before at_rest) same c.in_ok-join_readers.ensures.whole
    (settled-indexed keys texts' after.map (gathered_in after readers') last settled.0 settled.1
    (gathered-indexed keys before.texts texts' before.handle parted after
    c.in_ok-readers.readers.items readers' at_rest.logs at_rest.index c.split_readers.ensures.same
    c.in_ok-readers.ensures.parted c.enter_found-places.ensures.looked kept
    c.enter_found-places.ensures.index))
