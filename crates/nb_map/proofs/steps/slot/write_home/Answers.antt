use Rattle.std.proofs.Common.{◌≡◌, ◌≢◌, ◌∙◌, ◌==◌, [], ◌∷◌, None, Some, Result, Ok, Err, ap, cond, refl, subst, sym, arith, rules}
use Rattle.std.proofs.lemmas.Bool.{eqb-true, not-false}
use Rattle.std.proofs.lemmas.Nat.{pow_pos}
use Rattle.nb_core.specs.History.{key_of_call}
use Rattle.nb_core.specs.Tables.{path_slot}
use Rattle.nb_core.specs.declared.calls.Reply.{Reply}
use Rattle.nb_core.specs.declared.states.KeyState.TheVariants.{Claimed, Dead, Empty}
use Rattle.nb_table.specs.Chains.{Extended, seen_by}
use Rattle.nb_table.specs.Events.{read, shown_by_key}
use Rattle.nb_map.specs.Calling.{HasMade}
use Rattle.nb_map.specs.Logs.{as_replied}
use Rattle.nb_map.specs.declared.faults.PutFault.TheVariants.{ValueRange}
use Rattle.nb_map.specs.declared.faults.PutFault.{PutFault}
use Rattle.nb_map.specs.inside.Waiting.{HasLookedInVain}
use Rattle.nb_map.specs.inside.Writing.{IsDecided}
use Rattle.nb_map.proofs.Counted.{net-alone}
use Rattle.nb_map.proofs.Claimed.{HasNoNext, claimed-empty, dead-empty, last-table, none-seen}
use Rattle.nb_map.proofs.HomeSlot.{HasHome, HasLooked, at-home-slot, goes-on, lost-claim, lost-here, lost-home, mine, other-home, primed-here, still-installed, told-here, was-home, way-home, won-home}
use Rattle.nb_map.proofs.Made.{made-none, made-own, made-quiet, made-read, made-within}
use Rattle.nb_map.proofs.OnPath.{load-on_path, slot-of_path, slot-on_path, slot-reached}
use Rattle.nb_map.proofs.Straight.{at-known, told-there}
use Rattle.nb_map.proofs.Tried.{acts-unless, alone-before, reply-fits}
use Rattle.nb_map.proofs.steps.slot.write_home.Given.{Over}
use Rattle.nb_map.proofs.steps.slot.write_home.Goals as goal
use Rattle.nb_table.proofs.Theorems.{steps_add_up}
use Rattle.nb_map.proofs.steps.slot.write_home.Goals.{After-claim_key_at, After-load_key_word_at-word, After-key-then-not-is, Joined-not-is, then-not-is+else-not-is_empty+in_default+else-top-generations+in-Empty, else-top-generations-via-then-top-generations+else-load_next, else-top-generations-via-else-top-generations, then-not-is+else-not-is_empty+in_default+else-top-generations+in-Claimed+else-ne, else-not-is}

-- ---- the look at the home slot

pub load_key_word_at-word-requires-clause-slot : goal.load_key_word_at-word-requires-clause-slot
load_key_word_at-word-requires-clause-slot g c =
    (slot-of_path c.shape.ensures c.key.ensures c.path.ensures c.slot-home.ensures).placed

pub load_key_word_at-word-requires-clause-reached :
    goal.load_key_word_at-word-requires-clause-reached
load_key_word_at-word-requires-clause-reached g c =
    slot-reached c.args.chain.now
    (at-known c.args.chain.now c.known_top-top.result c.requires.own c.known_top-top.ensures c.args.call.now)
    (slot-of_path c.shape.ensures c.key.ensures c.path.ensures c.slot-home.ensures)

pub load_key_word_at-word-requires-clause-on_path :
    goal.load_key_word_at-word-requires-clause-on_path
load_key_word_at-word-requires-clause-on_path g c =
    slot-on_path c.args.chain.now
    (at-known c.args.chain.now c.known_top-top.result c.requires.own c.known_top-top.ensures c.args.call.now)
    (slot-of_path c.shape.ensures c.key.ensures c.path.ensures c.slot-home.ensures)
    (pow_pos _)

looked :
    (g : Over) (c : After-load_key_word_at-word g)
    → HasLooked c.args.chain.now c.args.call.now c.args.seat.now c.load_key_word_at-word.new.seat
    c.known_top-top.result c.slot-home.result c.load_key_word_at-word.result
looked g c = record {
  own = c.requires.own;
  top = c.known_top-top.ensures;
  place = slot-of_path c.shape.ensures c.key.ensures c.path.ensures c.slot-home.ensures;
  grows = c.load_key_word_at-word.ensures.grows;
  found = c.load_key_word_at-word.ensures.found;
}

-- ---- the slot isn't the key's

pub returns-then-not-is_empty-clause-tried : goal.returns-then-not-is_empty-clause-tried
returns-then-not-is_empty-clause-tried g c =
    let chain = c.args.chain.now in
    let seat = c.load_key_word_at-word.new.seat in
    let word = c.load_key_word_at-word.result in
    let look = looked g (goal.at.returns-then-not-is_empty-clause-tried g c).After-load_key_word_at-word in
    let some : word ≡ Empty → ⊥ = c.is_empty.ensures.no c.if-not-is_empty.true in
    let other : word ≡ Claimed (key_of_call c.args.call.now) → ⊥ =
    (λ own. c.is.ensures.no c.if-not-is.true (own ∙ ap Claimed (sym c.key-2.ensures))) in
    goes-on chain look (λ empty. absurd (some empty))
    (made-within 0 2 (omega arith) (made-none chain c.args.call.now seat (mine chain look))) other
    (λ last home. other-home chain look (seen_by chain.shape seat) word look.found some other home)

pub returns-in-Leave-clause-tried : goal.returns-in-Leave-clause-tried
returns-in-Leave-clause-tried g c =
    let chain = c.args.chain.now in
    let p = chain.shape in
    let call = c.args.call.now in
    let old = c.args.seat.now in
    let left = subst (IsDecided call None) c.in-Leave.is c.decide.ensures in
    let empty = c.is_empty.ensures.yes c.if-not-is_empty.false in
    let load = (steps_add_up.one c.load_key_word_at-word.ensures.grows).steps in
    let home = path_slot p c.known_top-top.result (key_of_call call) 0 in
    let shown = load-on_path call c.load_key_word_at-word.result
    (slot-of_path c.shape.ensures c.key.ensures c.path.ensures c.slot-home.ensures)
    c.load_key_word_at-word.ensures.grows in
    let reply = c.in-Leave.reply in
    let told : Result Reply PutFault = Ok reply in (
      told-there chain c.known_top-top.result c.requires.own c.known_top-top.ensures 1 told
          (made-within 1 _ (omega arith)
          (subst (λ made. HasMade p call old c.load_key_word_at-word.new.seat made 1)
          (ap (λ b. cond b (as_replied call None) []) left.0
          ∙ ap (λ r. (call, r) ∷ []) (sym left.1))
          (made-read p call (Some None)
          (subst (λ s. Extended p old c.load_key_word_at-word.new.seat (read old.number call
          (shown_by_key p c.known_top-top.result home s (key_of_call call))) 1) empty shown))))
          tt (omega (arith, load)) (λ alone known. omega (arith, load))
          (λ alone last. omega (arith, load)),
      net-alone call reply (reply-fits call None reply left.1)
          (alone-before call None reply left.0 left.1),
    )

-- ---- it is empty, and the write puts a number at an absent key

pub returns-then-load_next : goal.returns-then-load_next
returns-then-load_next g c =
    let chain = c.args.chain.now in
    let call = c.args.call.now in
    let empty = c.is_empty.ensures.yes c.if-not-is_empty.false in
    let fills = acts-unless call None c.decide.result c.decide.ensures c.in_default.not-Leave in
    record {
      tried = goes-on chain
          (looked g (goal.at.returns-then-load_next g c).After-load_key_word_at-word) (λ none. fills)
          (made-within 1 2 (omega arith) (made-quiet chain.shape call c.load_next.ensures.grows))
          (λ own. let both : Empty ≡ Claimed (key_of_call call) = sym empty ∙ own in cc)
          (λ last home. last.none_above (c.if-load_next.ensures.installed.0 refl));
      left = omega arith;
      serves = c.requires.serves;
    }

-- there is no next table
next :
    (g : Over) (c : After-key-then-not-is g)
    → HasNoNext c.args.chain.now c.args.call.now c.load_key_word_at-word.new.seat
    c.else-top-generations.seat c.known_top-top.result
next g c =
    let chain = c.args.chain.now in
    let call = c.args.call.now in
    elim c.else-top-generations.branch [
      | else-top-generations-via-then-top-generations+else-load_next w ↦
          none-seen chain call w.seat-is w.load_next.ensures.grows
          w.if-load_next.ensures.installed.1
      | else-top-generations-via-else-top-generations w ↦
          last-table chain call w.seat-is
          (steps_add_up.own c.requires.own (steps_add_up.one c.load_key_word_at-word.ensures.grows))
          (search rules) w.if-top-generations.false
    ]

pub claim_key_at-requires : goal.claim_key_at-requires
claim_key_at-requires g c =
    let chain = c.args.chain.now in
    let look = looked g (goal.at.claim_key_at-requires g c).After-load_key_word_at-word in
    let none = next g (goal.at.claim_key_at-requires g c).After-key-then-not-is in
    record {
      own = made-own chain (mine chain look) none.made;
      slot = look.place.placed;
      installed = still-installed chain look none;
      way = way-home chain look none c.key-then-not-is.ensures;
    }

-- another came before it
vain :
    (g : Over) (c : After-claim_key_at g)
    → HasLooked c.args.chain.now c.args.call.now c.args.seat.now c.load_key_word_at-word.new.seat
    c.known_top-top.result c.slot-home.result c.load_key_word_at-word.result
    → HasNoNext c.args.chain.now c.args.call.now c.load_key_word_at-word.new.seat
    c.else-top-generations.seat c.known_top-top.result
    → c.claim_key_at.result ≢ Empty → c.claim_key_at.result ≢ Claimed (key_of_call c.args.call.now)
    → HasLookedInVain c.args.chain.now c.args.call.now c.args.seat.now c.claim_key_at.new.seat 0
vain g c look none some other =
    let chain = c.args.chain.now in
    let call = c.args.call.now in
    let empty = c.is_empty.ensures.yes c.if-not-is_empty.false in
    let lost = c.claim_key_at.ensures.lost some in
    goes-on chain look
    (λ none. acts-unless call None c.decide.result c.decide.ensures c.in_default.not-Leave)
    (lost-claim chain look none lost.0)
    (λ own. let both : Empty ≡ Claimed (key_of_call call) = sym empty ∙ own in cc)
    (λ last home.
    other-home chain look (seen_by chain.shape c.claim_key_at.new.seat) c.claim_key_at.result lost.1
    some other home)

pub returns-in-Dead : goal.returns-in-Dead
returns-in-Dead g c =
    let at = goal.at.returns-in-Dead g c in
    record {
      tried = vain g at.After-claim_key_at (looked g at.After-load_key_word_at-word)
          (next g at.After-key-then-not-is) (dead-empty c.claim_key_at.result c.in-Dead.is)
          (λ own. let both : Dead ≡ Claimed (key_of_call c.args.call.now) = sym c.in-Dead.is ∙ own in cc);
      left = omega arith;
      serves = c.requires.serves;
    }

pub returns-then-ne : goal.returns-then-ne
returns-then-ne g c =
    let at = goal.at.returns-then-ne g c in
    let key : c.key-in-Claimed.result ≡ key_of_call c.args.call.now = c.key-in-Claimed.ensures in
    let other : c.in-Claimed.other ≢ c.key-in-Claimed.result = search rules in
    record {
      tried = vain g at.After-claim_key_at (looked g at.After-load_key_word_at-word)
          (next g at.After-key-then-not-is)
          (claimed-empty c.claim_key_at.result c.in-Claimed.other c.in-Claimed.is)
          (λ own. other (let both : Claimed c.in-Claimed.other ≡ Claimed (key_of_call c.args.call.now) =
          sym c.in-Claimed.is ∙ own in cc));
      left = omega arith;
      serves = c.requires.serves;
    }

-- ---- the slot is the key's, or is claimed for it

home :
    (g : Over) (c : Joined-not-is g)
    → HasLooked c.args.chain.now c.args.call.now c.args.seat.now c.load_key_word_at-word.new.seat
    c.known_top-top.result c.slot-home.result c.load_key_word_at-word.result
    → HasHome c.args.chain.now c.args.call.now c.load_key_word_at-word.new.seat c.if-not-is.seat
    c.slot-home.result c.load_key_word_at-word.result
home g c look =
    let chain = c.args.chain.now in
    let call = c.args.call.now in
    let looked' = c.load_key_word_at-word.new.seat in
    let top = c.known_top-top.result in
    elim c.if-not-is.branch [
      | then-not-is+else-not-is_empty+in_default+else-top-generations+in-Empty w ↦
          let next : HasNoNext chain call looked' w.else-top-generations.seat top =
          elim w.else-top-generations.branch [
            | else-top-generations-via-then-top-generations+else-load_next v ↦
                none-seen chain call v.seat-is v.load_next.ensures.grows
                v.if-load_next.ensures.installed.1
            | else-top-generations-via-else-top-generations v ↦
                last-table chain call v.seat-is (mine chain look) (search rules)
                v.if-top-generations.false
          ] in
          won-home chain look next w.seat-is (w.is_empty.ensures.yes w.if-not-is_empty.false)
          (acts-unless call None w.decide.result w.decide.ensures w.in_default.not-Leave)
          w.key-then-not-is.ensures (w.claim_key_at.ensures.won w.in-Empty.is)
      | then-not-is+else-not-is_empty+in_default+else-top-generations+in-Claimed+else-ne w ↦
          let next : HasNoNext chain call looked' w.else-top-generations.seat top =
          elim w.else-top-generations.branch [
            | else-top-generations-via-then-top-generations+else-load_next v ↦
                none-seen chain call v.seat-is v.load_next.ensures.grows
                v.if-load_next.ensures.installed.1
            | else-top-generations-via-else-top-generations v ↦
                last-table chain call v.seat-is (mine chain look) (search rules)
                v.if-top-generations.false
          ] in
          let other = w.in-Claimed.other in
          let same = eqb-true other w.key-in-Claimed.result
          (not-false (other == w.key-in-Claimed.result) (sym w.ne.ensures ∙ w.if-ne.false)) in
          lost-home chain look next w.seat-is (w.is_empty.ensures.yes w.if-not-is_empty.false)
          (acts-unless call None w.decide.result w.decide.ensures w.in_default.not-Leave)
          (w.claim_key_at.ensures.lost (claimed-empty w.claim_key_at.result other w.in-Claimed.is))
          (w.in-Claimed.is ∙ ap Claimed (same ∙ w.key-in-Claimed.ensures))
      | else-not-is w ↦
          was-home chain look w.seat-is
          (c.is.ensures.yes w.if-not-is.false ∙ ap Claimed c.key-2.ensures)
    ]

pub try_at-requires-clause-at : goal.try_at-requires-clause-at
try_at-requires-clause-at g c =
    let at = goal.at.try_at-requires-clause-at g c in
    let look = looked g at.After-load_key_word_at-word in
    at-home-slot c.args.chain.now look (home g at.Joined-not-is look)

pub returns-in-Made-clause-tried : goal.returns-in-Made-clause-tried
returns-in-Made-clause-tried g c =
    let at = goal.at.returns-in-Made-clause-tried g c in
    let look = looked g at.After-load_key_word_at-word in
    told-here c.args.chain.now look (home g at.Joined-not-is look) (Ok c.in-Made.reply)
    c.in-Made.ensures.made c.in-Made.ensures.spent tt

pub returns-in-Left-clause-tried : goal.returns-in-Left-clause-tried
returns-in-Left-clause-tried g c =
    let at = goal.at.returns-in-Left-clause-tried g c in
    let look = looked g at.After-load_key_word_at-word in
    let tried = c.in-Left.ensures.tried in (
      told-here c.args.chain.now look (home g at.Joined-not-is look) (Ok c.in-Left.reply)
          c.in-Left.ensures.made c.in-Left.ensures.spent tt,
      net-alone c.args.call.now c.in-Left.reply tried.0 tried.1,
    )

pub returns-in-Overflow-clause-tried : goal.returns-in-Overflow-clause-tried
returns-in-Overflow-clause-tried g c =
    let at = goal.at.returns-in-Overflow-clause-tried g c in
    let look = looked g at.After-load_key_word_at-word in
    told-here c.args.chain.now look (home g at.Joined-not-is look) (Err ValueRange)
    c.in-Overflow.ensures.made c.in-Overflow.ensures.spent c.in-Overflow.ensures.tried.0

pub returns-in-Lost-clause-tried : goal.returns-in-Lost-clause-tried
returns-in-Lost-clause-tried g c =
    let at = goal.at.returns-in-Lost-clause-tried g c in
    let look = looked g at.After-load_key_word_at-word in
    lost-here c.args.chain.now look (home g at.Joined-not-is look) c.in-Lost.ensures.made
    c.in-Lost.ensures.spent c.in-Lost.ensures.tried.0

pub returns-in-Copied-clause-tried : goal.returns-in-Copied-clause-tried
returns-in-Copied-clause-tried g c =
    let at = goal.at.returns-in-Copied-clause-tried g c in
    let look = looked g at.After-load_key_word_at-word in
    primed-here c.args.chain.now look (home g at.Joined-not-is look) c.in-Copied.field-0
    c.in-Copied.ensures.made c.in-Copied.ensures.spent c.in-Copied.ensures.tried.0
    c.in-Copied.ensures.tried.1
