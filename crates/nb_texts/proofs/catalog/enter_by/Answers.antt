use Rattle.std.proofs.Common.{◌≡◌, [], ◌∷◌, Some, refl, subst}
use Rattle.std.specs.Prelude.{slice_get}
use Rattle.nb_texts.specs.Clues.{IsClueTo}
use Rattle.nb_texts.specs.Hashes.{key_for}
use Rattle.nb_texts.proofs.FindingLemmas.{entered-known}
use Rattle.nb_texts.proofs.LinesLemmas.{grown-none}
use Rattle.nb_texts.proofs.StoppedLemmas.{kept-none}
use Rattle.nb_texts.proofs.catalog.enter_by.Goals as goal

pub returns-in-Place-clause-entered : goal.returns-in-Place-clause-entered
returns-in-Place-clause-entered g c =
    let at : slice_get c.args.texts.now c.in-Place.place ≡ Some c.args.line.now
    = subst (IsClueTo c.args.hashing c.args.texts.now c.args.line.now) c.in-Place.is c.requires in
    entered-known c.args.handle.now.map.chain.shape (key_for c.args.hashing) c.args.handle.now.map
    c.args.handle.now.seat c.args.texts.now c.args.line.now c.in-Place.place c.known.ensures.own at

pub returns-in-Place-clause-grown : goal.returns-in-Place-clause-grown
returns-in-Place-clause-grown g c =
    grown-none (c.args.line.now ∷ []) c.args.texts.now c.args.texts.now refl

pub returns-in-Place-clause-placed : goal.returns-in-Place-clause-placed
returns-in-Place-clause-placed g c =
    subst (IsClueTo c.args.hashing c.args.texts.now c.args.line.now) c.in-Place.is c.requires

pub returns-in-Place-clause-index : goal.returns-in-Place-clause-index
returns-in-Place-clause-index g c =
    kept-none (key_for c.args.hashing) c.args.handle.now.map c.args.handle.now.seat c.args.texts.now
    c.known.ensures.own
