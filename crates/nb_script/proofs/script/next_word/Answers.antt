use Rattle.std.proofs.Common.{rules}
use Rattle.nb_script.proofs.Words.{no_word, first_word, shorter_rest}
use Rattle.nb_script.proofs.script.next_word.Goals as goal

pub returns-then-is_empty-clause-none : goal.returns-then-is_empty-clause-none
returns-then-is_empty-clause-none c = no_word _ _ _ c.blanks_before_word.ensures
    c.split_at.ensures.back (search rules)

pub returns-clause-some : goal.returns-clause-some
returns-clause-some c =
    first_word _ _ _ _ _ _ c.blanks_before_word.ensures c.split_at.ensures.back (search rules)
    c.bytes_before_blank.ensures c.split_at-2.ensures.front c.split_at-2.ensures.back

pub returns-clause-shorter : goal.returns-clause-shorter
returns-clause-shorter c =
    shorter_rest _ _ _ _ _ c.blanks_before_word.ensures c.split_at.ensures.back (search rules)
    c.bytes_before_blank.ensures c.split_at-2.ensures.back
