-- The shape of a chain of tables: how many tables, how large each is, and where each word of it
-- lies.
use Rattle.std.specs.Prelude.{◌≡◌, ℕ, ◌+◌, ◌*◌, ◌/◌, ◌-◌, ◌^◌, ◌<◌, ◌≤◌, min, suc, zero, ◌==◌, ◌&&◌, Bool, true, not, nat_le, if◌then◌else◌, List, [], ◌∷◌, ◌++◌, length, replicate, take, sum_by, slice_index, Result, Ok, Err, All}
use Rattle.std.specs.Int.{is_power_of_two}
use Rattle.std.specs.List.{list_all}
use Rattle.std.specs.List.Sorted.{IsNonDecreasing}
use Rattle.nb_core.specs.declared.shapes.TheConstants.{FEW_SEATS, FEW_STRIPES, MAX_EXPONENT, MAX_GENERATIONS, MAX_SEATS, MAX_SLOTS, MAX_STRIPES, MOST_KEYS, SHARED_STRIPES, SMALL_EXPONENT}
use Rattle.nb_core.specs.declared.shapes.HeaderWord.{HeaderWord}
use Rattle.nb_core.specs.declared.shapes.HeaderWord.TheVariants as header
use Rattle.nb_core.specs.declared.shapes.ShapeFault.{ShapeFault}
use Rattle.nb_core.specs.declared.shapes.ShapeFault.TheVariants as fault
use Rattle.nb_core.specs.declared.shapes.churn.TheConstants.{CHURN_GREATEST, CHURN_LEAST}
use Rattle.nb_core.specs.declared.shapes.keys.TheConstants.{FIRST_EXPONENT, KEYS_CHUNK, SHORT_PATH, STEP}

-- Table g has 2 to the power exponents[g] slots. There are seats for so many callers, and a size is
-- counted over so many stripes. No table but the last takes a new key past so many slots of the
-- key's path, and at most so many slots are handed out for copying at once.
pub record Plan : Type 0 where
  pub exponents : List ℕ
  pub seats : ℕ
  pub stripes : ℕ
  pub reprobes : ℕ
  pub chunk : ℕ

-- a power of two from 4 to 1024
abbrev pub IsChunk : ℕ → Type 0
IsChunk n = (e : ℕ) × (2 ≤ e) × (e ≤ 10) × (n ≡ 2 ^ e)

-- how many slots tables of these exponents have, all together
abbrev pub slots_in : List ℕ → ℕ
slots_in exponents = sum_by (λ e. 2 ^ e) exponents

-- what a shape may be
pub record IsPlan (p : Plan) : Type 0 where
  pub tables : (1 ≤ length p.exponents) × (length p.exponents ≤ MAX_GENERATIONS)
  pub sizes : All (λ e. (2 ≤ e) × (e ≤ MAX_EXPONENT)) p.exponents
  pub never_fall : IsNonDecreasing p.exponents
  pub slots : slots_in p.exponents ≤ MAX_SLOTS
  pub seats : (1 ≤ p.seats) × (p.seats ≤ MAX_SEATS)
  pub stripes : (1 ≤ p.stripes) × (p.stripes ≤ MAX_STRIPES)
  pub reprobes : (1 ≤ p.reprobes) × (p.reprobes < 2 ^ 32)
  pub chunk : IsChunk p.chunk

-- how many tables there are
abbrev pub generations_of : Plan → ℕ
generations_of p = length p.exponents

-- how many slots table g has
abbrev pub size_of : Plan → ℕ → ℕ
size_of p g = 2 ^ slice_index p.exponents g

-- how many slots of its path a key may be claimed in by a fresh writer; in the last table, all
abbrev pub limit_of : Plan → ℕ → ℕ
limit_of p g =
    if suc g == generations_of p then size_of p g else min p.reprobes (2 + size_of p g / 4)

-- how many words a table has: three header words (next, take, done), and a key word and a value
-- word for each slot
abbrev pub table_words : ℕ → ℕ
table_words exponent = 3 + 2 * 2 ^ exponent

-- where table g begins: the top word is word 0, and the tables follow, one after another
abbrev pub base_of : Plan → ℕ → ℕ
base_of p g = 1 + sum_by table_words (take g p.exponents)

-- how many words the chain has
abbrev pub word_count : Plan → ℕ
word_count p = base_of p (generations_of p)

-- which of a table's header words it is
abbrev pub header_number : HeaderWord → ℕ
header_number header.Next = 0
header_number header.Take = 1
header_number header.Done = 2

-- where header word h of table g lies
abbrev pub header_place : Plan → ℕ → ℕ → ℕ
header_place p g h = base_of p g + h

-- where the key word of slot i of table g lies
abbrev pub key_place : Plan → ℕ → ℕ → ℕ
key_place p g i = base_of p g + 3 + 2 * i

-- where the value word of slot i of table g lies, right behind its key word
abbrev pub value_place : Plan → ℕ → ℕ → ℕ
value_place p g i = key_place p g i + 1

-- the words of a chain, by name
pub data Word : Type 0 where
  Top : Word
  Header : (g h : ℕ) → Word
  Key : (g i : ℕ) → Word
  Value : (g i : ℕ) → Word

-- where a word lies
abbrev pub index_of_word : Plan → Word → ℕ
index_of_word p Top = 0
index_of_word p (Header g h) = header_place p g h
index_of_word p (Key g i) = key_place p g i
index_of_word p (Value g i) = value_place p g i

-- the chain has this word
abbrev pub IsWord : Plan → Word → Type 0
IsWord p Top = Unit {0}
IsWord p (Header g h) = (g < generations_of p) × (h < 3)
IsWord p (Key g i) = (g < generations_of p) × (i < size_of p g)
IsWord p (Value g i) = (g < generations_of p) × (i < size_of p g)

-- No two words have one index, and each index is below the number of words.
pub record HasDistinctIndices (p : Plan) : Type 0 where
  pub distinct : (a b : Word) → IsWord p a → IsWord p b → index_of_word p a ≡ index_of_word p b
      → a ≡ b
  pub below : (a : Word) → IsWord p a → index_of_word p a < word_count p

-- each plan that a shape may be has its words at distinct indices
abbrev pub IndicesAreDistinct : Type 0
IndicesAreDistinct = (p : Plan) → IsPlan p → HasDistinctIndices p

-- no table is smaller than the one before it
abbrev pub SizesNeverFall : Type 0
SizesNeverFall =
    (p : Plan) → IsPlan p → (g : ℕ) → suc g < generations_of p → size_of p g ≤ size_of p (suc g)

-- The limit of a table is a slot at least, and no more slots than the table has.
abbrev pub LimitsFit : Type 0
LimitsFit = (p : Plan) → IsPlan p → (g : ℕ) → g < generations_of p → (1 ≤ limit_of p g)
    × (limit_of p g ≤ size_of p g)

-- the number is from low to high
abbrev pub is_within : ℕ → ℕ → ℕ → Bool
is_within low high n = nat_le low n && nat_le n high

-- no exponent is below the one before it
abbrev pub never_falls : List ℕ → Bool
never_falls [] = true
never_falls (e ∷ []) = true
never_falls (e ∷ f ∷ es) = nat_le e f && never_falls (f ∷ es)

-- the plan of these tables, seats and stripes, with no reprobe limit beside that of each table's
-- size and chunks of 8 slots
abbrev pub plan : List ℕ → ℕ → ℕ → Plan
plan exponents seats stripes =
    record {
      exponents = exponents;
      seats = seats;
      stripes = stripes;
      reprobes = 2 ^ 32 - 1;
      chunk = 8;
    }

-- the plan, or the first thing that is wrong with its seats and stripes
abbrev pub seated : List ℕ → ℕ → ℕ → Result Plan ShapeFault
seated exponents seats stripes =
    if not (is_within 1 FEW_SEATS seats) then Err fault.Seats
    else if not (is_within 1 FEW_STRIPES stripes) then Err fault.Stripes
    else Ok (plan exponents seats stripes)

-- the first thing that is wrong with the exponents of 1 to 16 tables, of which none is larger than
-- the largest, nor smaller than the one before it, or else this
abbrev pub checked_exponents :
    (largest : ℕ) (exponents : List ℕ) → Result Plan ShapeFault → Result Plan ShapeFault
checked_exponents largest exponents passed =
    if not (is_within 1 MAX_GENERATIONS (length exponents)) then Err fault.Generations
    else if not (list_all (is_within 2 largest) exponents) then Err fault.Bits
    else if not (never_falls exponents) then Err fault.Plan
    else passed

-- the plan of these exponents, or the first thing that is wrong with it
abbrev pub checked_plan : List ℕ → ℕ → ℕ → Result Plan ShapeFault
checked_plan exponents seats stripes =
    checked_exponents SMALL_EXPONENT exponents (seated exponents seats stripes)

-- the plan of these exponents, larger ones too, with one seat and one stripe, or the first thing
-- that is wrong with it
abbrev pub checked_tables : List ℕ → Result Plan ShapeFault
checked_tables exponents =
    checked_exponents MAX_EXPONENT exponents
    (if not (nat_le (slots_in exponents) MAX_SLOTS) then Err fault.Slots
    else Ok (plan exponents 1 1))

-- so many numbers, from first on
abbrev pub rising : ℕ → ℕ → List ℕ
rising first zero = []
rising first (suc count) = first ∷ rising (suc first) count

-- the plan of tables that double, or the first thing that is wrong with it
abbrev pub checked_shape : ℕ → ℕ → ℕ → ℕ → Result Plan ShapeFault
checked_shape bits generations seats stripes =
    if not (is_within 2 12 bits) then Err fault.Bits
    else if not (is_within 1 8 generations) then Err fault.Generations
    else seated (rising bits generations) seats stripes

-- the plan with this reprobe limit, which is a slot at least
abbrev pub checked_reprobes : Plan → ℕ → Result Plan ShapeFault
checked_reprobes p reprobes =
    if nat_le 1 reprobes then Ok (record p { reprobes = reprobes }) else Err fault.Reprobes

-- the plan with chunks of so many slots, a power of two from 4 to 1024
abbrev pub checked_chunk : Plan → ℕ → Result Plan ShapeFault
checked_chunk p slots =
    if is_within 4 1024 slots && is_power_of_two slots then Ok (record p { chunk = slots })
    else Err fault.Chunk

-- the plan with so many seats
abbrev pub checked_seats : Plan → ℕ → Result Plan ShapeFault
checked_seats p seats =
    if is_within 1 MAX_SEATS seats then Ok (record p { seats = seats }) else Err fault.Seats

-- the plan with so many stripes
abbrev pub checked_stripes : Plan → ℕ → Result Plan ShapeFault
checked_stripes p stripes =
    if is_within 1 MAX_STRIPES stripes then Ok (record p { stripes = stripes })
    else Err fault.Stripes

-- how many slots so many keys are given: half as many again
abbrev pub slots_for : ℕ → ℕ
slots_for most = most + most / 2

-- the first exponent from e on whose table has so many slots, of so many that are tried
unfoldable pub first_exponent : (tries e slots : ℕ) → ℕ
first_exponent zero e slots = e
first_exponent (suc tries) e slots =
    if nat_le slots (2 ^ e) then e else first_exponent tries (suc e) slots

-- the exponent of the smallest table that has room for so many keys, of 32 slots at least
abbrev pub exponent_for : ℕ → ℕ
exponent_for most = first_exponent 23 5 (slots_for most)

-- so many exponents, the last of which is this one, each STEP below the next
unfoldable pub steps_down : (tables last : ℕ) → List ℕ
steps_down zero last = []
steps_down (suc tables) last = steps_down tables (last - STEP) ++ last ∷ []

-- how many such exponents there are from the last one down to FIRST_EXPONENT
abbrev pub tables_for : ℕ → ℕ
tables_for last = (last - FIRST_EXPONENT) / STEP + 1

-- the plan for so many keys: the last table has room for them, and each table below is smaller by a
-- fixed factor, so that a map with few keys stays small; each seat has a stripe, up to so many
abbrev pub plan_for_keys : ℕ → ℕ → Plan
plan_for_keys most seats =
    record {
      exponents = steps_down (tables_for (exponent_for most)) (exponent_for most);
      seats = seats;
      stripes = min seats SHARED_STRIPES;
      reprobes = SHORT_PATH;
      chunk = KEYS_CHUNK;
    }

-- the plan for so many keys and seats, or the first thing that is wrong with these
abbrev pub checked_for_keys : ℕ → ℕ → Result Plan ShapeFault
checked_for_keys most seats =
    if not (nat_le most MOST_KEYS) then Err fault.Keys
    else if not (is_within 1 MAX_SEATS seats) then Err fault.Seats
    else Ok (plan_for_keys most seats)

-- the last table has room for so many keys and for half as many again
abbrev pub HasRoomFor : Plan → ℕ → Type 0
HasRoomFor p most = slots_for most ≤ size_of p (generations_of p - 1)

-- how many slots new keys find in so many tables of one size, if each table is filled before the
-- next: all of the first one, and in each later one those that the live keys leave
abbrev pub room_for_churn : (tables size live : ℕ) → ℕ
room_for_churn tables size live = size + (tables - 1) * (size - live)

-- So many tables have room for half as many keys again as ever come.
abbrev pub has_room_for_churn : (live ever size tables : ℕ) → Bool
has_room_for_churn live ever size tables =
    nat_le (slots_for ever) (room_for_churn tables size live)

-- Tables of 2 to this power slots have twice as many as there are live keys, and as many such
-- tables as there may be have room.
abbrev pub suits_churn : (live ever exponent : ℕ) → Bool
suits_churn live ever exponent =
    nat_le (2 * live) (2 ^ exponent) && has_room_for_churn live ever (2 ^ exponent) MAX_GENERATIONS

-- the first number from n on that passes a test, of so many that are tried, or else the one past
-- these
unfoldable pub first_passing : (test : ℕ → Bool) (tries n : ℕ) → ℕ
first_passing test zero n = n
first_passing test (suc tries) n = if test n then n else first_passing test tries (suc n)

-- the exponent of the smallest tables that suit, or else one past the greatest
abbrev pub exponent_for_churn : (live ever : ℕ) → ℕ
exponent_for_churn live ever =
    first_passing (suits_churn live ever) (CHURN_GREATEST + 1 - CHURN_LEAST) CHURN_LEAST

-- the fewest tables of this size that have room
abbrev pub tables_for_churn : (live ever size : ℕ) → ℕ
tables_for_churn live ever size =
    first_passing (has_room_for_churn live ever size) (MAX_GENERATIONS - 1) 1

-- the plan for keys that come and go: the fewest of the smallest tables that suit, all of one size,
-- with no reprobe limit beside that of their size; each seat has a stripe, up to so many
abbrev pub plan_for_churn : (live ever seats : ℕ) → Plan
plan_for_churn live ever seats =
    record {
      exponents =
          replicate (tables_for_churn live ever (2 ^ exponent_for_churn live ever))
          (exponent_for_churn live ever);
      seats = seats;
      stripes = min seats SHARED_STRIPES;
      reprobes = 2 ^ 32 - 1;
      chunk = 64;
    }

-- the plan for so many keys and seats, or the first thing that is wrong with these
abbrev pub checked_for_churn : (live ever seats : ℕ) → Result Plan ShapeFault
checked_for_churn live ever seats =
    if not (nat_le (exponent_for_churn live ever) CHURN_GREATEST) then Err fault.Keys
    else if not (is_within 1 MAX_SEATS seats) then Err fault.Seats
    else Ok (plan_for_churn live ever seats)

-- All tables have one size, which is twice as many slots as there are live keys, or more. Where
-- each is filled before the next, new keys find slots for half as many again as ever come.
pub record HasRoomForChurn (p : Plan) (live ever : ℕ) : Type 0 where
  pub one_size : (g : ℕ) → g < generations_of p → size_of p g ≡ size_of p 0
  pub twice : 2 * live ≤ size_of p 0
  pub room : slots_for ever ≤ room_for_churn (generations_of p) (size_of p 0) live
