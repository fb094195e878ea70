-- Steps by which a key leaves a core.
use Rattle.std.proofs.Common.{◌≡◌, ◌∙◌, ℕ, Bool, Option, Some, Ok, Err, ap, sym}
use Rattle.std.specs.Prelude.{if◌then◌else◌}
use Rattle.nb_core.specs.declared.calls.Call.{Call}
use Rattle.nb_core.specs.declared.calls.Reply.{Reply}
use Rattle.nb_map.proofs.Theorems.{replies_fit}
use Rattle.nb_map.specs.Maps.{MapOf, SeatOf}
use Rattle.nb_map.specs.NamedCalls.{exchange_of}
use Rattle.nb_map.specs.Progress.{Tries}
use Rattle.nb_map.specs.Promises.{HasWritten, Found, Refused, Replied}
use Rattle.nb_map.specs.declared.faults.PutFault.{PutFault}
use Rattle.nb_migration.proofs.Replied.{from_found, from_reply}
use Rattle.nb_migration.specs.Numbers.{seen_of}
use Rattle.nb_migration.specs.Settling.{HasStepped, left_by}
use Rattle.nb_migration.specs.Writes.{fault_of}
use Rattle.nb_migration.specs.declared.numbers.Seen.{Seen}
use Rattle.nb_migration.specs.declared.writes.CoreFault.{CoreFault}

-- an exchange was made, whose condition held or not
pub replied_step :
    {map : MapOf} {key old new : ℕ} {before after : SeatOf} {tries : ℕ} {seen : Seen} (reply : Reply)
    (b : Bool) → reply.matched ≡ b
    → HasWritten map (exchange_of key (Some old) (Some new)) before after (Tries tries) (Replied reply)
    → seen ≡ seen_of (if b then Some new else reply.before)
    → HasStepped map (exchange_of key (Some old) (Some new)) before after tries (Ok seen)
replied_step {key = key} {old} {new} {before} {after} reply b is written at =
    let call = exchange_of key (Some old) (Some new) in
    let fits = replies_fit before after call reply written.answered in
    let left : Bool → Option ℕ = λ b. if b then Some new else reply.before in
    record {
      found = Ok reply.before;
      written = from_reply (Ok reply) written;
      answered =
          ap Ok (at ∙ ap (λ b. seen_of (left b)) (sym is ∙ ap (λ (r : Reply). r.matched) fits));
    }

-- it is refused
pub refused_step :
    {map : MapOf} {call : Call} {before after : SeatOf} {tries : ℕ} {fault : CoreFault}
    (refusal : PutFault)
    → HasWritten map call before after (Tries tries) (Refused refusal) → fault ≡ fault_of refusal
    → HasStepped map call before after tries (Err fault)
refused_step refusal written is = record { found = Err refusal; written = written; answered = ap Err is }

-- a call was made that found this
pub found_step :
    {map : MapOf} {call : Call} {before after : SeatOf} {tries : ℕ} {seen : Seen}
    (found : Option ℕ) → HasWritten map call before after (Tries tries) (Found found)
    → seen ≡ seen_of (left_by call found)
    → HasStepped map call before after tries (Ok seen)
found_step found written is =
    record { found = Ok found; written = from_found (Ok found) written; answered = ap Ok is }
