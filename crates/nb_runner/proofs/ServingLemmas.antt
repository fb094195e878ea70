-- What a process has done on streams that it lent to the program.
use Rattle.std.proofs.Common.{◌≡◌, ◌⊎◌, inl, inr, ℕ, Bool, true, false, IsTrue, [], ap, sym, subst, refl, append-nil, Option, Some, None, Result, Ok, Err, IfErr, OnOk}
use Rattle.std.specs.Io.KnownBytes.{Appends}
use Rattle.nb_script.specs.Faults.{complaint_of}
use Rattle.nb_script.specs.Script.{Bytes}
use Rattle.nb_script.specs.Streams.{AppendsSome}
use Rattle.nb_script.specs.declared.faults.RunFault.TheVariants as run
use Rattle.nb_script.specs.declared.faults.ServeFault.{ServeFault}
use Rattle.nb_script.specs.declared.faults.ServeFault.TheVariants as serve
use Rattle.nb_runner.specs.Named.{named}
use Rattle.nb_runner.specs.Serving.{HasBrokenHelp, HasFailed, HasFault, HasRunAsAsked, HasServed, HasShownHelp, HasStopped, IsServeFaultOf, Words, streams}

-- all of the bytes went out, or a beginning of them
pub some_said :
    {A E : Type 0} (written written' : Option Bytes) (bytes : Bytes) (result : Result A E)
    → OnOk result (Appends written written' bytes)
    → IfErr result (λ _. AppendsSome written written' bytes)
    → AppendsSome written written' bytes
some_said written written' bytes (Ok x) all some =
    record { out = bytes; missing = []; are = append-nil bytes; appended = all }
some_said written written' bytes (Err e) all some = some

-- ---- a stream that is lent: what was added to it under the borrow's name was added to it

-- without the name
unnamed :
    (name name' : ℕ) (a b : Option Bytes) (bytes : Bytes)
    → Appends (named name a) (named name' b) bytes → Appends a b bytes
unnamed name name' None b bytes added = tt
unnamed name name' (Some xs) None bytes added = absurd added
unnamed name name' (Some xs) (Some ys) bytes added = cc

-- where bytes are known, the name stays
name_kept :
    (name name' : ℕ) (xs : Bytes) (b : Option Bytes) (bytes : Bytes)
    → Appends (named name (Some xs)) (named name' b) bytes → name ≡ name'
name_kept name name' xs None bytes added = absurd added
name_kept name name' xs (Some ys) bytes added = cc

returned :
    (name name' : ℕ) (a b c : Option Bytes) (bytes : Bytes) → (name ≡ name' → c ≡ b)
    → Appends (named name a) (named name' b) bytes → Appends a c bytes
returned name name' None b c bytes back added = tt
returned name name' (Some xs) b c bytes back added =
    subst (λ d. Appends (Some xs) d bytes)
    (sym (back (name_kept name name' xs b bytes added)))
    (unnamed name name' (Some xs) b bytes added)

-- The stream was lent as first, under a name. It came back as last, and is so if the name stayed.
pub carried :
    {W : Type 0} (contents : W → Option Bytes) (lender lender' first last : W) (name name' : ℕ)
    → first ≡ lender → (name ≡ name' → lender' ≡ last) → (bytes : Bytes)
    → Appends (named name (contents first)) (named name' (contents last)) bytes
    → Appends (contents lender) (contents lender') bytes
carried contents lender lender' first last name name' begins ends bytes added =
    subst (λ w. Appends (contents w) (contents lender') bytes) begins
    (returned name name' (contents first) (contents last) (contents lender') bytes
    (λ kept. ap contents (ends kept)) added)

-- ---- what came of the program, if what was written to one stream was written to another

module _ (words : Words) (unread unread' a b c d : Option Bytes) (Unread Unread' : Type 0)
    (carry : (bytes : Bytes) → Appends a b bytes → Appends c d bytes) (kept : Unread → Unread')
  where
    some_carried : (bytes : Bytes) → AppendsSome a b bytes → AppendsSome c d bytes
    some_carried bytes some = record {
      out = some.out;
      missing = some.missing;
      are = some.are;
      appended = carry some.out some.appended;
    }

    run_carried :
        HasRunAsAsked words unread unread' a b → HasRunAsAsked words unread unread' c d
    run_carried asked = record {
      plan = asked.plan;
      given = asked.given;
      run = record {
        text = asked.run.text;
        tells = asked.run.tells;
        output = carry asked.run.text asked.run.output;
      };
    }

    help_carried : HasShownHelp words Unread a b → HasShownHelp words Unread' c d
    help_carried help = record {
      text = help.text;
      asked = help.asked;
      untouched = kept help.untouched;
      told = carry _ help.told;
    }

    write_carried :
        HasFault words unread unread' a b run.Write → HasFault words unread unread' c d run.Write
    write_carried fault = record {
      plan = fault.plan;
      given = fault.given;
      due = record {
        text = fault.due.text;
        tells = fault.due.tells;
        output = some_carried fault.due.text fault.due.output;
      };
    }

    broken_carried : HasBrokenHelp words Unread a b → HasBrokenHelp words Unread' c d
    broken_carried help = record {
      text = help.text;
      asked = help.asked;
      untouched = kept help.untouched;
      told = some_carried _ help.told;
    }

    fault_carried :
        (fault : ServeFault) → IsServeFaultOf words unread unread' Unread a b fault
        → IsServeFaultOf words unread unread' Unread' c d fault
    fault_carried serve.Usage due = (due.0, kept due.1)
    fault_carried (serve.Run run.Read) due =
        record { plan = due.plan; given = due.given; due = due.due }
    fault_carried (serve.Run run.Write) (inl due) = inl (write_carried due)
    fault_carried (serve.Run run.Write) (inr due) = inr (broken_carried due)
    fault_carried (serve.Run (run.Line n cause)) due =
        record { plan = due.plan; given = due.given; due = due.due }
    fault_carried (serve.Run run.OutOfMemory) (inl due) =
        inl (record { plan = due.plan; given = due.given; due = due.due })
    fault_carried (serve.Run run.OutOfMemory) (inr due) = inr (due.0, kept due.1)

    done_carried :
        HasRunAsAsked words unread unread' a b ⊎ HasShownHelp words Unread a b
        → HasRunAsAsked words unread unread' c d ⊎ HasShownHelp words Unread' c d
    done_carried (inl asked) = inl (run_carried asked)
    done_carried (inr help) = inr (help_carried help)

-- ---- the process

unfailed : (b : Bool) → (IsTrue b → ⊥) → b ≡ false
unfailed true never = absurd (never refl)
unfailed false never = refl

module _ {R W : Type 0} (words words' : Words) (same : words' ≡ words)
    (remaining : R → Option Bytes) (input input' first_in : R) (begins_in : first_in ≡ input)
    (contents : W → Option Bytes) (output output' first last : W) (name name' : ℕ)
    (begins : first ≡ output) (ends : name ≡ name' → output' ≡ last) (Unread : Type 0)
    (kept : Unread → input' ≡ input) (unread' : Option Bytes) where
  carry :
      (bytes : Bytes)
      → Appends (named name (contents first)) (named name' (contents last)) bytes
      → Appends (contents output) (contents output') bytes
  carry = carried contents output output' first last name name' begins ends

  pub served :
      HasRunAsAsked words' (remaining first_in) unread' (named name (contents first))
      (named name' (contents last))
      ⊎ HasShownHelp words' Unread (named name (contents first)) (named name' (contents last))
      → HasServed words remaining input input' (contents output) (contents output')
  served done = (
    unread',
    done_carried words (remaining input) unread' _ _ _ _ Unread
        (input' ≡ input) carry kept
        (subst (λ r. HasRunAsAsked words (remaining r) unread' (named name (contents first))
        (named name' (contents last))
        ⊎ HasShownHelp words Unread (named name (contents first)) (named name' (contents last)))
        begins_in (subst (λ ws. HasRunAsAsked ws (remaining first_in) unread'
        (named name (contents first)) (named name' (contents last))
        ⊎ HasShownHelp ws Unread (named name (contents first)) (named name' (contents last)))
        same done)),
  )

  pub stopped :
      {E : Type 0} (said : E → Option Bytes) (errors errors' first_said last_said : E)
      (name_said name_said' : ℕ) → first_said ≡ errors
      → (name_said ≡ name_said' → errors' ≡ last_said)
      → (b₁ b₂ b₃ b₄ b₅ b₆ : Bool) → (b₅ ≡ false → output' ≡ output) → (status : ℕ)
      → HasFailed words'
      (streams (remaining first_in) (named name (contents first))
      (named name_said (said first_said)) b₁ b₂ b₃)
      (streams unread' (named name' (contents last)) (named name_said' (said last_said))
      b₄ b₅ b₆) Unread status
      → HasStopped words remaining input input' contents output output' (said errors)
      (said errors') status
  stopped said errors errors' first_said last_said name_said name_said' begins_said ends_said
      b₁ b₂ b₃ b₄ b₅ b₆ silent status failed =
      record {
        fault = failed.fault;
        status_is = failed.status_is;
        unread' = unread';
        due = fault_carried words (remaining input) unread' _ _ _ _ Unread (input' ≡ input) carry
            kept failed.fault
            (subst (λ r. IsServeFaultOf words (remaining r) unread' Unread
            (named name (contents first)) (named name' (contents last)) failed.fault) begins_in
            (subst (λ ws. IsServeFaultOf ws (remaining first_in) unread' Unread
            (named name (contents first)) (named name' (contents last)) failed.fault) same
            failed.due));
        silent = λ other. silent (unfailed b₅ (λ bad. other (failed.write.1 bad)));
        begun = some_carried words (remaining input) unread' _ _ _ _ Unread (input' ≡ input)
            (carried said errors errors' first_said last_said name_said name_said' begins_said
            ends_said) kept (complaint_of failed.fault) failed.begun;
      }
