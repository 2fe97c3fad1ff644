use Rattle.mux_items.proofs.Apart.{written-restricted, window-restricted, emitted-restricted, taken-restricted, handed-restricted, unread-restricted}
use Rattle.mux_items.proofs.laws.channels_are_apart.Goals as goal

pub returns : goal.returns
returns c = record {
  written = written-restricted;
  window = window-restricted;
  emitted = emitted-restricted;
  taken = taken-restricted;
  handed = handed-restricted;
  unread = unread-restricted;
}
