-- How much an end sends, keeps and takes, as other specs name it.
use Rattle.std.specs.Prelude.{ℕ}
use Rattle.mux_items.specs.declared.limits.TheConstants.{NONCE_SIZE, LONGEST_NAME, GREATEST_WINDOW, MOST_WINDOWS, MOST_CHANNELS, MOST_OFFERS, MOST_BYTES, PIECE_SIZE, ABSENT_WINDOW}

abbrev pub nonce_size : ℕ
nonce_size = NONCE_SIZE

abbrev pub longest_name : ℕ
longest_name = LONGEST_NAME

abbrev pub greatest_window : ℕ
greatest_window = GREATEST_WINDOW

abbrev pub most_windows : ℕ
most_windows = MOST_WINDOWS

abbrev pub most_channels : ℕ
most_channels = MOST_CHANNELS

abbrev pub most_offers : ℕ
most_offers = MOST_OFFERS

abbrev pub most_bytes : ℕ
most_bytes = MOST_BYTES

abbrev pub piece_size : ℕ
piece_size = PIECE_SIZE

abbrev pub absent_window : ℕ
absent_window = ABSENT_WINDOW
