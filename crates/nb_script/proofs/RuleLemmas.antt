-- What clap's builders make of the options of a command.
use Rattle.std.proofs.Common.{◌≡◌, ◌∙◌, ◌<◌, ◌^◌, ap, ap₂, arith, subst, false, ℕ, Option, Some, ℤ, pos}
use Rattle.std.proofs.lemmas.Int.{clamps, ints}
use Rattle.clap.specs.Texts.{items_of}
use Rattle.clap.specs.Walk.{texts}
use Rattle.clap.specs.Words.{AddsArg, App, NarrowsTo, Rule, Text, app_of, rule_of, with_rule}
use Rattle.clap.specs.declared.builder.arg.Arg.{Arg}
use Rattle.clap.specs.declared.builder.command.Command.{Command}
use Rattle.clap.specs.declared.builder.value_parser.ValueParser.{ValueParser}
use Rattle.clap.specs.declared.builder.value_parser.ValueParser.TheVariants.{Signed}
use Rattle.nb_script.specs.Options.{option_rule}

-- what a range of numbers of 32 bits leaves of the parser of a `u32`
pub narrowed :
    (p r : ValueParser) (start end : ℤ) (low high : ℕ) → p ≡ Signed (pos 0) (pos 4294967295)
    → start ≡ pos low → end ≡ pos high → low < 2 ^ 32 → high < 2 ^ 32
    → NarrowsTo p (Some start) (Some end) r → r ≡ Signed (pos low) (pos high)
narrowed p r start end low high is from to low_fits high_fits h =
    subst (λ (x : ValueParser). NarrowsTo x (Some (pos low)) (Some (pos high)) r) is
    (subst (λ (x : ℤ). NarrowsTo p (Some (pos low)) (Some x) r) to
    (subst (λ (x : ℤ). NarrowsTo p (Some x) (Some end) r) from h))
    ∙ grind (arith, ints, clamps)

-- a command that gets an option
pub app_with :
    (old new : Command) (a : Arg) (app : App) (rule : Rule) → AddsArg old a new → app_of old ≡ app
    → rule_of a ≡ rule → a.global ≡ false
    → app_of new ≡ with_rule app rule
app_with old new a app rule added is-app is-rule local = added.shape local
    ∙ ap₂ with_rule is-app is-rule

-- an option a that was given a parser, in b, and a default, in c
pub rule_checked :
    (a b c : Arg) (name : Text) (p q : ValueParser) (default : _)
    → rule_of a ≡ option_rule name
    → ◌≡◌ {A = Arg} b (record a { value_parser = b.value_parser })
    → (x : ValueParser) × (b.value_parser ≡ Some x) × (x ≡ p) → p ≡ q
    → ◌≡◌ {A = Arg} c (record b { default_vals = default })
    → rule_of c ≡ record (option_rule name) { parser = Some q; defaults = texts (items_of default) }
rule_checked a b c name p q default is-option others given made defaulted =
    ap rule_of (defaulted ∙ ap (λ (x : Arg). record x { default_vals = default })
    (others ∙ ap (λ (o : Option ValueParser). record a { value_parser = o }) parser_is))
    ∙ ap (λ (r : Rule). record r { parser = Some q; defaults = texts (items_of default) }) is-option
  where
    parser_is : b.value_parser ≡ Some q
    parser_is = given.1 ∙ ap Some (given.2 ∙ made)
