use Rattle.std.proofs.Common.{◌≡◌, ◌∙◌, ◌+◌, ◌++◌, append_assoc, ap, ap₂, sym, codes, decimal, drop, rules}
use Rattle.std.specs.List.{flat_map}
use Rattle.nb_script.specs.Script.{Bytes}
use Rattle.nb_runner.specs.Text.{entry_line}
use Rattle.nb_runner.proofs.Saying.{more-said, next-failed, texts-next}
use Rattle.nb_runner.proofs.output.say_entries.Goals as goal

-- the pieces of a line are the line
line-is :
    (k n key number : Bytes) → k ≡ key → n ≡ number
    → key ++ codes " " ++ number ++ codes "\n" ≡ k ++ (codes " " ++ (n ++ codes "\n"))
line-is k n key number e f =
    sym (sym (append_assoc (k ++ codes " ") n (codes "\n")
    ∙ append_assoc k (codes " ") (n ++ codes "\n"))
    ∙ ap₂ (λ (k n : Bytes). k ++ codes " " ++ n ++ codes "\n") e f)

pub loop-key-preserved : goal.loop-key-preserved
loop-key-preserved g c =
    let all = c.args.entries.now in
    let entry = c.loop-key-item.result in
    let line = line-is c.as_bytes-key.result.now c.as_bytes-number.result.now (decimal entry.0)
    (decimal entry.1) (search rules) (search rules) in
    more-said c.loop-key.invariant c.in_ok-say_all.ensures
    (texts-next entry_line all c.loop-key.key-index entry c.loop-key-test.true c.loop-key-item.is
    ∙ ap (λ bytes. bytes ++ flat_map entry_line (drop (c.loop-key.key-index + 1) all)) line)

pub returns-in_err-say_all : goal.returns-in_err-say_all
returns-in_err-say_all g c =
    let all = c.args.entries.now in
    let entry = c.loop-key-item.result in
    let line = line-is c.as_bytes-key.result.now c.as_bytes-number.result.now (decimal entry.0)
    (decimal entry.1) (search rules) (search rules) in
    next-failed _ c.from_residual.result c.loop-key.invariant c.in_err-say_all.ensures
    (texts-next entry_line all c.loop-key.key-index entry c.loop-key-test.true c.loop-key-item.is
    ∙ ap (λ bytes. bytes ++ flat_map entry_line (drop (c.loop-key.key-index + 1) all)) line)
    c.from_residual.ensures.0
