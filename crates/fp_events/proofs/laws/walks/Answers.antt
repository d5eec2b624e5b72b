use Rattle.std.proofs.Common.{length, arith}
use Rattle.fp_events.proofs.Room.{climb_room, goes_room}
use Rattle.fp_events.proofs.laws.walks.Goals as goal

pub returns : goal.returns
returns c = record {
  upward = λ m before n v low more. climb_room m before n (length m.vertices) v (omega arith) low;
  onward = λ m answers rank ranked n around source step asked low more.
      goes_room m answers rank ranked n (length m.vertices) around source step asked (omega arith) low;
}
