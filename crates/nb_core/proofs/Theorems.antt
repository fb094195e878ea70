-- The laws of every shape and of every legal history, proved, by the names that
-- crates/nb_core/src/laws.rt gives them.
pub use Rattle.nb_core.proofs.Codings.{codings}
pub use Rattle.nb_core.proofs.Counting.{counted_once as counted}
pub use Rattle.nb_core.proofs.Following.{complete_passed, installed_after, moved, one_place, has_one_slot as one_slot, passed_settled, has_room as room, top_complete}
pub use Rattle.nb_core.proofs.Keys.{few_keys, map_in_range}
pub use Rattle.nb_core.proofs.Later.{beginnings_are_legal, content_once, seen_lasts, slots_stay as stays}
pub use Rattle.nb_core.proofs.Lawful.{lawful_changes, lawful_words}
pub use Rattle.nb_core.proofs.Linked.{linked, on_path, passed_above, whole_crowded}
pub use Rattle.nb_core.proofs.Net.{size_is_net}
pub use Rattle.nb_core.proofs.Others.{lost_exchange, own_lasts, passed_over_adds}
pub use Rattle.nb_core.proofs.Paths.{paths_are_distinct}
pub use Rattle.nb_core.proofs.Replayed.{calls_append, log_is_replayed}
pub use Rattle.nb_core.proofs.Replying.{read_replies, win_replies}
pub use Rattle.nb_core.proofs.Searches.{held_has_place, place_is}
pub use Rattle.nb_core.proofs.Shown.{crowded_absent, decided, stands, win_number}
pub use Rattle.nb_core.proofs.Tables.{limits_fit, indices_are_distinct, sizes_never_fall}
pub use Rattle.nb_core.proofs.Whole.{nothing_is_missing}
-- and of single events: the seat of one that is in range is one of the plan's
pub use Rattle.nb_core.proofs.Counting.{seat-in_range}
