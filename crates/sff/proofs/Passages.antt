-- Laws of the walk that other crates cite: what passes where a read does, and the parts and the length of a passage.
pub use Rattle.sff.proofs.walk.Laws.{Passed, next_ok, next_any, walk_any, walk_none, walk_length}
pub use Rattle.sff.proofs.walk.Split.{Split, walk_split, walk_join}
