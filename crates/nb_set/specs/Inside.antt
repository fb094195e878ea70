-- What is in a set, its walks and handles, and in what is left of it, and how contracts see it.
use Rattle.nb_set.specs.Ending.{EndedOf}
use Rattle.nb_set.specs.Handles.{HandleOf, HandleWalkOf, as_handle, as_walk}
use Rattle.nb_set.specs.Sets.{SetOf}
use Rattle.nb_set.specs.Walks.{WalkOf}
use Rattle.nb_set.specs.declared.ended.SetEnded.TheInside as ended
use Rattle.nb_set.specs.declared.handle.Handle.TheInside as handle
use Rattle.nb_set.specs.declared.handle_walk.HandleWalk.TheInside as handle_walk
use Rattle.nb_set.specs.declared.set.LongSet.TheInside as set
use Rattle.nb_set.specs.declared.set.Walk.TheInside as walk

-- the set, as contracts see it
abbrev pub set_of : set.Inside → SetOf
set_of c = record { map = c.map }

-- the walk, as contracts see it
abbrev pub walk_of : walk.Inside → WalkOf
walk_of c = record { map = c.map }

-- the handle, as contracts see it
abbrev pub handle_of : handle.Inside → HandleOf
handle_of c = as_handle c.map

-- the walk by a handle, as contracts see it
abbrev pub handle_walk_of : handle_walk.Inside → HandleWalkOf
handle_walk_of c = as_walk c.map

-- the ended set, as contracts see it
abbrev pub ended_of : ended.Inside → EndedOf
ended_of c = record { map = c.map }
