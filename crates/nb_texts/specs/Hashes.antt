-- The keys under which a text is looked for.
use Rattle.std.specs.Prelude.{ℕ, ◌+◌, ◌-◌, ◌%◌, ◌^◌, List, bit_and, min}
use Rattle.core.specs.Hash.DefaultHasher.{finish, with_keys, write}
use Rattle.nb_texts.specs.declared.hashing.Hashing.{Hashing}
use Rattle.nb_texts.specs.declared.hashing.TheConstants.{SECOND}

-- the hash function with this key, of whose hashes the lowest bits count, so many, and 64 at most
unfoldable pub hashing_of : (seed bits : ℕ) → Hashing
hashing_of seed bits =
    record { hasher = with_keys seed SECOND; mask = min (2 ^ bits) (2 ^ 64) - 1 }

-- the hash of a text: of its SipHash the bits that count
unfoldable pub hash_of : Hashing → List ℕ → ℕ
hash_of hashing text = bit_and (finish (write hashing.hasher text)) hashing.mask

-- the key at which a text of this hash is looked for once it wasn't found at so many others
unfoldable pub key_after : (hash tries : ℕ) → ℕ
key_after hash tries = (hash + tries) % 2 ^ 64 % 2 ^ 63

abbrev pub key_for : Hashing → List ℕ → (tries : ℕ) → ℕ
key_for hashing text tries = key_after (hash_of hashing text) tries
