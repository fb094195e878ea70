-- How a shape keeps its plan: the exponents, the last slot of the table of each, and where it
-- begins.
use Rattle.std.specs.Prelude.{◌≡◌, ◌-◌, ℕ, List, if◌then◌else◌, map, nat_lt, slice_index, take}
use Rattle.std.specs.List.{range_with_len}
use Rattle.nb_core.specs.declared.shapes.Shape.TheInside.{Inside}
use Rattle.nb_core.specs.Plans.{Plan, IsPlan, base_of, generations_of, size_of, word_count}

-- the plan that the fields keep
abbrev pub plan_of : Inside → Plan
plan_of a = record {
  exponents = take a.generations a.exponents;
  seats = a.seats;
  stripes = a.stripes;
  reprobes = a.reprobes;
  chunk = a.chunk;
}

-- the exponents, and 0 at each place past the last table
unfoldable pub kept_exponents : Plan → List ℕ
kept_exponents p = map (slice_index p.exponents) (range_with_len 0 16)

-- the last slots of the tables, and 0 at each place past the last table
unfoldable pub kept_lasts : Plan → List ℕ
kept_lasts p =
    map (λ g. if nat_lt g (generations_of p) then size_of p g - 1 else 0) (range_with_len 0 16)

-- the indices where the tables begin, and 0 at each place past the last table
unfoldable pub kept_bases : Plan → List ℕ
kept_bases p =
    map (λ g. if nat_lt g (generations_of p) then base_of p g else 0) (range_with_len 0 16)

-- the fields of the shape of a plan
abbrev pub inside_of : Plan → Inside
inside_of p = record {
  exponents = kept_exponents p;
  lasts = kept_lasts p;
  bases = kept_bases p;
  words = word_count p;
  generations = generations_of p;
  seats = p.seats;
  stripes = p.stripes;
  reprobes = p.reprobes;
  chunk = p.chunk;
}

-- the fields are those of the shape of a plan
pub record IsInside (a : Inside) : Type 0 where
  pub plan : IsPlan (plan_of a)
  pub fields : a ≡ inside_of (plan_of a)
