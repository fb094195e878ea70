-- Reads of many keys, a group at a time.
use Rattle.std.proofs.Common.{◌≡◌, ◌∙◌, ◌+◌, ◌-◌, ◌≤◌, ℕ, List, [], ◌++◌, Option, ap, append_assoc, drop, length, length-append, length-drop, refl, subst, sym, take, arith}
use Rattle.std.proofs.Math.Seq.{drop-append_seam, take-add, take-append_seam}
use Rattle.std.proofs.lemmas.List.{drop-drop, length-map, length-take-le, map-append, take_all}
use borrow.Rule.Slice.PartMut.{put_mid}
use Rattle.nb_map.proofs.Theorems.{reads_add_up}
use Rattle.nb_map.specs.Bulk as bulk
use Rattle.nb_map.specs.Handles.{HandleOf}
use Rattle.nb_map.specs.Maps.{IsMine}
use Rattle.nb_ffi.specs.Many.{told_of}
use Rattle.nb_ffi.specs.Promises.{HasGotMany}

-- the first keys were read, and what they have is written
pub record HasRead (keys : List ℕ) (other : ℕ) (before : HandleOf) (room : List ℕ)
    (now : HandleOf) (numbers : List ℕ) (done : ℕ) : Type 0 where
  pub found : List (Option ℕ)
  pub own : IsMine before.map before.seat
  pub many : length found ≡ done
  pub within : done ≤ length keys
  pub fits : length keys ≤ length room
  pub written : numbers ≡ told_of other found ++ drop done room
  pub got : HasGotMany (take done keys) found before now

pub read-none :
    (keys : List ℕ) (other : ℕ) (before : HandleOf) (room : List ℕ) → IsMine before.map before.seat
    → length keys ≤ length room → HasRead keys other before room before room 0
read-none keys other before room own fits = record {
  found = [];
  own = own;
  many = refl;
  within = omega arith;
  fits = fits;
  written = refl;
  got = record {
    promised = reads_add_up.none own;
    rest = record { map = refl; reserve = refl };
  };
}

-- a part is written behind the first ones
written-part :
    (first part room : List ℕ) (done n k : ℕ) → length first ≡ done → k ≡ n
    → put_mid done k (first ++ drop done room) part ≡ (first ++ part) ++ drop (done + n) room
written-part first part room done n k long is =
    let front : take done (first ++ drop done room) ≡ first =
    subst (λ i. take i (first ++ drop done room) ≡ first) long
    (take-append_seam first (drop done room)) in
    let back : drop done (first ++ drop done room) ≡ drop done room =
    subst (λ i. drop i (first ++ drop done room) ≡ drop done room) long
    (drop-append_seam first (drop done room)) in
    rw (front, back, is)
    (ap (λ rest. first ++ (part ++ rest)) (drop-drop n done room)
    ∙ sym (append_assoc first part (drop (done + n) room)))

-- a group more
pub read-more :
    {keys : List ℕ} {other : ℕ} {before now after : HandleOf} {room numbers part : List ℕ}
    {done : ℕ} (n : ℕ) (found : List (Option ℕ))
    → HasRead keys other before room now numbers done
    → done + n ≤ length keys → part ≡ told_of other found
    → length found ≡ length (take (done + n - done) (drop done keys))
    → HasGotMany (take (done + n - done) (drop done keys)) found now after
    → HasRead keys other before room after (put_mid done (done + n - done) numbers part) (done + n)
read-more {keys} {other} {before} {now} {after} {room} {numbers} {part} {done} n found read within is
    long got =
    let same : done + n - done ≡ n = omega arith in
    let many : length found ≡ n =
    long ∙ length-take-le (done + n - done) (drop done keys)
    (omega (arith, within, length-drop done keys)) ∙ same in
    let first = told_of other read.found in
    let far : length first ≡ done = length-map read.found _ ∙ read.many in
    record {
      found = read.found ++ found;
      own = read.own;
      many = length-append read.found found ∙ omega (arith, read.many, many);
      within = within;
      fits = read.fits;
      written = ap (λ xs. put_mid done (done + n - done) xs part) read.written
          ∙ written-part first part room done n (done + n - done) far same
          ∙ ap (λ xs. (first ++ xs) ++ drop (done + n) room) is
          ∙ ap (λ xs. xs ++ drop (done + n) room) (sym (map-append _ read.found found));
      got = record {
        promised = subst (λ ks. bulk.HasGotMany before.map ks before.seat after.seat
            (read.found ++ found))
            (ap (λ k. take done keys ++ take k (drop done keys)) same ∙ sym (take-add done n keys))
            (reads_add_up.more read.own read.got.promised
            (subst (λ m. bulk.HasGotMany m (take (done + n - done) (drop done keys)) now.seat
            after.seat found) read.got.rest.map got.promised));
        rest = record {
          map = got.rest.map ∙ read.got.rest.map;
          reserve = got.rest.reserve ∙ read.got.rest.reserve;
        };
      };
    }

-- and then all of them
pub read-all :
    {keys : List ℕ} {other : ℕ} {before now : HandleOf} {room numbers : List ℕ} {done : ℕ}
    → HasRead keys other before room now numbers done → length keys ≤ done
    → (found : List (Option ℕ)) × (numbers ≡ told_of other found ++ drop (length keys) room)
    × HasGotMany keys found before now
read-all {keys} {other} {before} {now} {room} {done = done} read all = (
  read.found,
  read.written ∙ ap (λ n. told_of other read.found ++ drop n room) (omega (arith, read.within, all)),
  subst (λ ks. HasGotMany ks read.found before now) (take_all done keys all) read.got,
)
