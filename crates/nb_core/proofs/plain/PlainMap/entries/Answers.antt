use Rattle.std.proofs.Common.{◌≡◌, ◌∙◌, ap, sym, rules}
use Rattle.std.specs.FinMap.{entries}
use Rattle.nb_core.proofs.Entries.{in_order, entries_in_order, all_taken}
use Rattle.nb_core.proofs.plain.PlainMap.entries.Goals as goal

pub returns : goal.returns
returns c =
    let all : c.into_iter-key-iterator.result ≡ c.self.inside.numbers.entries = search rules in
    all_taken c.loop-key.entries.items c.loop-key.key-iterator c.into_iter-key-iterator.result
    c.loop-key.invariant c.in-None.ensures.steps.0 ∙ all
    ∙ sym (entries_in_order _ (in_order c.self.inside.numbers.entries c.len.ensures.ordered))
    ∙ ap (λ m. entries m) c.self.view_is
