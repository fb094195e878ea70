-- The calls that the functions of this crate promise are those of the protocol.
use Rattle.std.proofs.Common.{◌≡◌, ℕ, Option, Some, None, refl}
use Rattle.nb_map.specs.NamedCalls.{exchange_of}
use Rattle.nb_migration.specs.CoreCalls.{CallsAreMadeSo, open_call}

exchange-so : (key : ℕ) (old new : Option ℕ) → open_call (exchange_of key old new) ≡ exchange_of key old new
exchange-so key None new = refl
exchange-so key (Some n) new = refl

pub calls_are_made_so : CallsAreMadeSo
calls_are_made_so key = record {
  put = λ n. refl;
  add = λ n. refl;
  remove = refl;
  exchange = exchange-so key;
  copy = λ seat from n. refl;
}
