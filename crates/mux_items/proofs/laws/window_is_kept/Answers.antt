use Rattle.mux_items.proofs.Window.{unread_window}
use Rattle.mux_items.proofs.laws.window_is_kept.Goals as goal

pub returns : goal.returns
returns c = unread_window
