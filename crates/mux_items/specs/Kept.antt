-- The channels of one end.
use Rattle.std.specs.Prelude.{ℕ, ◌+◌, ◌-◌, ◌*◌, List, [], ◌∷◌, filter, sum_by, Bool, true, false, not, ◌&&◌, ◌||◌}
use Rattle.std.specs.List.{list_any}
use Rattle.wire_base.specs.declared.frame.Version.{Version}
use Rattle.mux_items.specs.declared.channel.ChannelKey.{ChannelKey}
use Rattle.mux_items.specs.declared.party.Party.{Party}
use Rattle.mux_items.specs.declared.party.Party.TheVariants.{Odd, Even, Neither}
use Rattle.mux_items.specs.Bodies.{Offer, same_key}
use Rattle.mux_items.specs.Items.{Item, DidOffer, Got, party_of}
use Rattle.mux_items.specs.Lists.{is_closed, unread, window}

-- the channels that were offered and not rejected, newest first
abbrev pub keys : List Item → List ChannelKey
keys [] = []
keys (DidOffer key name size ∷ items) = key ∷ keys items
keys (Got place key (Offer name size) ∷ items) = key ∷ keys items
keys (item ∷ items) = keys items

abbrev pub is_known : ChannelKey → List Item → Bool
is_known c items = list_any (same_key c) (keys items)

abbrev pub has_bytes : List ℕ → Bool
has_bytes [] = false
has_bytes (byte ∷ bytes) = true

-- a known channel is kept while it isn't closed or has unread bytes
abbrev pub is_kept : Version → ChannelKey → List Item → Bool
is_kept v c items = is_known c items && (not (is_closed v c items) || has_bytes (unread v c items))

abbrev pub kept_keys : Version → List Item → List ChannelKey
kept_keys v items = filter (λ c. is_kept v c items) (keys items)

-- the own windows of all kept channels together
abbrev pub own_windows : Version → List Item → ℕ
own_windows v items = sum_by (λ c. window c items) (kept_keys v items)

-- how many offers were made here
abbrev pub own_offers : List Item → ℕ
own_offers [] = 0
own_offers (DidOffer key name size ∷ items) = own_offers items + 1
own_offers (item ∷ items) = own_offers items

-- the id of the k-th own offer
abbrev pub own_id : Party → ℕ → ℕ
own_id Odd k = 2 * k - 1
own_id Even k = 2 * k
own_id Neither k = k

-- the channel that the next own offer draws
abbrev pub next_key : List Item → ChannelKey
next_key items = record { id = own_id (party_of items) (own_offers items + 1); own = true }
