use Rattle.std.proofs.Common.{◌≡◌, rules, refl, codes}
use Rattle.std.proofs.lemmas.Slice.Eq.{text_from_reads}
use Rattle.nb_script.proofs.script.Op.named.Goals as goal

pub returns-in-remove : goal.returns-in-remove
returns-in-remove c = let e : c.args.word.now ≡ codes "remove" =
    text_from_reads _ _ (search rules) (search rules) in rw e refl

pub returns-in-replace : goal.returns-in-replace
returns-in-replace c = let e : c.args.word.now ≡ codes "replace" =
    text_from_reads _ _ (search rules) (search rules) in rw e refl

pub returns-in-removeif : goal.returns-in-removeif
returns-in-removeif c = let e : c.args.word.now ≡ codes "removeif" =
    text_from_reads _ _ (search rules) (search rules) in rw e refl

pub returns-in-replaceif : goal.returns-in-replaceif
returns-in-replaceif c = let e : c.args.word.now ≡ codes "replaceif" =
    text_from_reads _ _ (search rules) (search rules) in rw e refl

pub returns-in-putifabsent : goal.returns-in-putifabsent
returns-in-putifabsent c = let e : c.args.word.now ≡ codes "putifabsent" =
    text_from_reads _ _ (search rules) (search rules) in rw e refl
