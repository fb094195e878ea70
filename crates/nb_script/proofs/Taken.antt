-- What the lines of a script say after some of the bytes that come.
use Rattle.std.proofs.Common.{◌≡◌, ◌∙◌, ℕ, ◌+◌, ◌≤◌, arith, sym, ap, refl, [], ◌++◌, length, take, drop, subst, inl, inr, append_assoc, append-nil, Option}
use Rattle.std.proofs.KnownBytes.{Consumes-kept, Consumes-trans}
use Rattle.std.specs.Io.KnownBytes.{Consumes, IsAtEnd, Keeps}
use Rattle.nb_script.specs.Reading.{IsFirstFault, room, with_bytes, with_lines}
use Rattle.nb_script.specs.Inputs.{HasReadOn, IsFaultOf, IsOpen}
use Rattle.nb_script.specs.Script.{Bytes, script_of}
use Rattle.nb_script.specs.declared.faults.RunFault.{RunFault}
use Rattle.nb_script.specs.declared.faults.RunFault.TheVariants as fault
use Rattle.nb_script.specs.declared.reader.Lines.{Lines}
use Rattle.nb_script.specs.declared.reader.TheConstants.{PIECE}
use Rattle.nb_script.proofs.Open.{open-line}

-- old took the first bytes, i of them, and is now new
pub record HasTaken (old new : Lines) (bytes : Bytes) (i : ℕ) : Type 0 where
  pub same : (more : Bytes) → with_bytes new (drop i bytes ++ more) ≡ with_bytes old (bytes ++ more)
  pub roomy : room new + i ≤ room old

-- the lines are those of the bytes that were read
pub record HasRead (seats : ℕ) (unread unread' : Option Bytes) (lines : Lines) : Type 0 where
  pub read : Bytes
  pub consumed : Consumes unread unread' read
  pub same : (more : Bytes) → with_bytes lines more ≡ script_of seats (read ++ more)

-- the bytes of one more read go to the lines
pub read_more :
    (seats : ℕ) (unread unread' unread'' : Option Bytes) (old new : Lines) (piece : Bytes)
    → HasRead seats unread unread' old → Consumes unread' unread'' piece
    → ((more : Bytes) → with_bytes new more ≡ with_bytes old (piece ++ more))
    → HasRead seats unread unread'' new
read_more seats unread unread' unread'' old new piece h consumed same = record {
  read = h.read ++ piece;
  consumed = Consumes-trans unread unread' unread'' h.read piece h.consumed consumed;
  same = λ more. same more ∙ h.same (piece ++ more)
      ∙ ap (script_of seats) (sym (append_assoc h.read piece more));
}

-- what was read so far settles no fault
unsettled :
    (seats : ℕ) (unread unread' : Option Bytes) (lines : Lines)
    → (h : HasRead seats unread unread' lines) → IsOpen seats h.read
unsettled seats unread unread' lines h = λ n why settled.
    open-line lines.seats lines.number (with_lines lines)
    lines.partial.items lines.short lines.one_line lines.begun n why
    (λ more. h.same more ∙ settled more)

-- a read that fails comes after bytes that settle no fault
pub fault_of_failure :
    (seats : ℕ) (unread unread' unread'' : Option Bytes) (lines : Lines)
    → HasRead seats unread unread' lines → Keeps unread' unread''
    → IsFaultOf seats unread unread'' fault.Read
fault_of_failure seats unread unread' unread'' lines h kept = record {
  read = h.read;
  consumed = Consumes-kept unread unread' unread'' h.read h.consumed kept;
  unsettled = unsettled seats unread unread' lines h;
}

-- one more piece was read
read_on :
    (seats : ℕ) (unread unread' unread'' : Option Bytes) (lines : Lines) (piece : Bytes)
    → (h : HasRead seats unread unread' lines) → Consumes unread' unread'' piece
    → length piece ≤ PIECE → HasReadOn seats unread unread'' (h.read ++ piece)
read_on seats unread unread' unread'' lines piece h consumed small = record {
  consumed = Consumes-trans unread unread' unread'' h.read piece h.consumed consumed;
  earlier = h.read;
  last = piece;
  are = refl;
  small = small;
  unsettled = unsettled seats unread unread' lines h;
}

-- a fault of the lines is one of the bytes that were read
pub fault_of_read :
    (seats : ℕ) (unread unread' unread'' : Option Bytes) (lines : Lines) (piece : Bytes)
    → HasRead seats unread unread' lines → Consumes unread' unread'' piece
    → length piece ≤ PIECE → (fault : RunFault)
    → IsFirstFault (λ more. with_bytes lines (piece ++ more)) fault
    → IsFaultOf seats unread unread'' fault
fault_of_read seats unread unread' unread'' lines piece h consumed small fault.Read first =
    absurd first
fault_of_read seats unread unread' unread'' lines piece h consumed small fault.Write first = first
fault_of_read seats unread unread' unread'' lines piece h consumed small (fault.Line n cause)
    first =
    record {
      read = h.read ++ piece;
      reading = read_on seats unread unread' unread'' lines piece h consumed small;
      said = ap (script_of seats) (ap (λ bytes. h.read ++ bytes) (sym (append-nil piece)))
          ∙ sym (h.same (piece ++ [])) ∙ first [];
      lasting = inr (λ more. ap (script_of seats) (append_assoc h.read piece more)
          ∙ sym (h.same (piece ++ more)) ∙ first more);
    }
fault_of_read seats unread unread' unread'' lines piece h consumed small fault.OutOfMemory first =
    (h.read ++ piece, read_on seats unread unread' unread'' lines piece h consumed small)

fault_of_nothing :
    (seats : ℕ) (unread unread' unread'' : Option Bytes) (lines : Lines)
    → HasRead seats unread unread' lines → Consumes unread' unread'' [] → IsAtEnd unread''
    → (fault : RunFault) → IsFirstFault (λ (more : Bytes). with_bytes lines []) fault
    → IsFaultOf seats unread unread'' fault
fault_of_nothing seats unread unread' unread'' lines h consumed ended fault.Read first =
    absurd first
fault_of_nothing seats unread unread' unread'' lines h consumed ended fault.Write first = first
fault_of_nothing seats unread unread' unread'' lines h consumed ended (fault.Line n cause) first =
    record {
      read = h.read ++ [];
      reading = read_on seats unread unread' unread'' lines [] h consumed (omega arith);
      said = sym (h.same []) ∙ first [];
      lasting = inl ended;
    }
fault_of_nothing seats unread unread' unread'' lines h consumed ended fault.OutOfMemory first =
    (h.read ++ [], read_on seats unread unread' unread'' lines [] h consumed (omega arith))

-- the same at the end, where the last read gave nothing
pub fault_of_end :
    (seats : ℕ) (unread unread' unread'' : Option Bytes) (lines : Lines) (bytes : Bytes) (count : ℕ)
    → HasRead seats unread unread' lines → Consumes unread' unread'' (take count bytes)
    → IsAtEnd unread'' → count ≡ 0
    → (fault : RunFault) → IsFirstFault (λ (more : Bytes). with_bytes lines []) fault
    → IsFaultOf seats unread unread'' fault
fault_of_end seats unread unread' unread'' lines bytes count h consumed ended none fault first =
    let nothing : Consumes unread' unread'' [] =
    subst (λ n. Consumes unread' unread'' (take n bytes)) none consumed in
    fault_of_nothing seats unread unread' unread'' lines h nothing ended fault first

-- a fault stays one where what is left to read is given in another way
pub fault_along :
    (seats : ℕ) (unread unread' unread'' : Option Bytes) (fault : RunFault) → unread' ≡ unread''
    → IsFaultOf seats unread unread'' fault → IsFaultOf seats unread unread' fault
fault_along seats unread unread' unread'' fault same due =
    subst (λ left. IsFaultOf seats unread left fault) (sym same) due
