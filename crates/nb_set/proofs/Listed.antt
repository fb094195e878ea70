-- All entries of a map at rest, as all keys of the set.
use Rattle.std.proofs.Common.{◌≡◌, ◌∙◌, ℕ, ◌||◌, List, [], ◌∷◌, ap, map, refl, reverse, subst, sym}
use Rattle.std.specs.FinMap.{contains_key}
use Rattle.std.specs.List.{list_any}
use Rattle.std.specs.Ordering.{eq_by_cmp, nat_cmp}
use Rattle.std.proofs.lemmas.List.Elements.{All-weaker}
use Rattle.nb_map.specs.Entries as of_map
use Rattle.nb_map.specs.Logs as map_logs
use Rattle.nb_map.specs.Opening.{map_of_entries}
use Rattle.nb_set.specs.Ending.{EndedOf, set_left}
use Rattle.nb_set.specs.Listing.{HaveListed}
use Rattle.nb_set.specs.Log.{set_of_log}
use Rattle.nb_set.specs.OfMap.{log_as, pair_for}
use Rattle.nb_set.specs.Opening.{set_of_keys}
use Rattle.nb_set.specs.Sets.{SeatOf, log}
use Rattle.nb_set.proofs.Dealt.{ended-with}
use Rattle.nb_set.proofs.Items.{left, same-keys}
use Rattle.nb_set.proofs.Opened.{any-reverse, entries-have, is_of, set-has}
use Rattle.nb_set.proofs.Read.{AreKeys, read}

abbrev keys_of : List (ℕ × ℕ) → List ℕ
keys_of entries = map (λ entry. entry.0) entries

any-entries :
    (q : ℕ) (entries : List (ℕ × ℕ))
    → list_any (is_of q) (map pair_for (keys_of entries)) ≡ list_any (is_of q) entries
any-entries q [] = refl
any-entries q (entry ∷ entries) =
    ap (λ b. eq_by_cmp nat_cmp q entry.0 || b) (any-entries q entries)

-- the set of the keys of entries has the keys of their map
keys-of-entries :
    (entries : List (ℕ × ℕ)) → AreKeys (set_of_keys (keys_of entries)) (map_of_entries entries)
keys-of-entries entries q =
    set-has (keys_of entries) q ∙ any-entries q entries ∙ sym (any-reverse (is_of q) entries)
    ∙ sym (entries-have (reverse entries) q)

pub listed-as :
    (before after : List SeatOf) (entries : List (ℕ × ℕ)) (keys : List ℕ) → keys ≡ keys_of entries
    → of_map.HaveListed before after entries → HaveListed before after keys
listed-as before after entries keys are listed =
    let ended : EndedOf = record { map = listed.ended } in
    let content = left ended listed.left.replayed in
    let whole = read listed.whole listed.replayed in
    subst (HaveListed before after) (sym are) (record {
      ended = ended;
      left = ended-with before ended listed.left;
      all = record {
        once = listed.all.once;
        are = same-keys (set_of_keys (keys_of entries)) (set_left ended)
            (λ q. keys-of-entries entries q ∙ ap (λ m. contains_key m q) listed.all.are
            ∙ sym (content q));
      };
      whole = log_as listed.whole;
      replayed = whole.0;
      logs = All-weaker (λ seat. map_logs.log seat ≡ listed.whole)
          (λ seat. log seat ≡ log_as listed.whole) (λ seat is. ap log_as is) after listed.logs;
      leaves = same-keys (set_of_log (log_as listed.whole)) (set_left ended)
          (λ q. whole.1 q ∙ ap (λ m. contains_key m q) listed.leaves ∙ sym (content q));
    })
