use Rattle.mux_items.proofs.Offered.{next_key_new}
use Rattle.mux_items.proofs.laws.offers_draw_new_channels.Goals as goal

pub returns : goal.returns
returns c = next_key_new
