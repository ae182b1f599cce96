-- What the loop of `order_host_run` keeps from command to command.
use Rattle.std.proofs.Common.{◌≡◌, ◌+◌, ◌*◌, ◌/◌, ◌<◌, length, drop}
use Rattle.std.specs.Iterator.Adapters.{take_count, take_source}
use Rattle.std.specs.Slice.Iter.{chunks_rest, chunks_size}
use Rattle.host.proofs.Running.{Underway}
use Rattle.host.proofs.order_host_run.Given as goal

abbrev pub invariant-loop-command : goal.invariant-loop-command
invariant-loop-command l = record {
  callable : (goal.iterator-loop-command).can_next l.command-iterator;
  finite : (goal.iterator-loop-command).is_finite l.command-iterator;
  size : chunks_size (take_source l.command-iterator) ≡ 12;
  left : chunks_rest (take_source l.command-iterator) ≡ drop (12 * length l.yielded) l.commands;
  room : take_count l.command-iterator + length l.yielded ≡ length l.initial.out / 16;
  began : 12 * length l.yielded < length l.commands + 12;
  written : l.written ≡ 16 * length l.yielded;
  underway : Underway l.commands (length l.yielded) l.list.lent l.pending l.initial.out l.out;
}
