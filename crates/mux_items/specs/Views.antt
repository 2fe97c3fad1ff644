-- What an end shows of its channels.
use Rattle.std.specs.Prelude.{ℕ, ◌-◌, List, [], ◌∷◌, length, Bool, nat_lt, if◌then◌else◌, Option, Some, None}
use Rattle.wire_base.specs.declared.frame.Version.{Version}
use Rattle.mux_items.specs.declared.channel.ChannelKey.{ChannelKey}
use Rattle.mux_items.specs.declared.channel.ChannelView.{ChannelView}
use Rattle.mux_items.specs.declared.channel.Tally.{Tally}
use Rattle.mux_items.specs.Bodies.{is_one, same_bool}
use Rattle.mux_items.specs.Items.{Item}
use Rattle.mux_items.specs.Lists.{written, emitted, taken, handed, unread, granted, is_cut, is_completed, phase_of}
use Rattle.mux_items.specs.Kept.{keys, is_known, is_kept}

-- the written bytes that aren't emitted, none after a cut
abbrev pub pending_count : Version → ChannelKey → List Item → ℕ
pending_count v c items = if is_cut c items then 0 else length (written c items) - emitted v c items

-- a kept channel as it is shown
abbrev pub view_of : Version → ChannelKey → List Item → Option ChannelView
view_of v c items =
    if is_kept v c items
    then Some (record {
      phase = phase_of v c items;
      unread = length (unread v c items);
      pending = pending_count v c items;
      emitted = emitted v c items;
      granted = if is_one v then None else Some (granted v c items);
      completed = is_completed v c items;
    })
    else None

-- what came of a channel that was offered and not rejected
abbrev pub tally_of : Version → ChannelKey → List Item → Option Tally
tally_of v c items =
    if is_known c items
    then Some (record {
      phase = phase_of v c items;
      written = length (written c items);
      emitted = emitted v c items;
      taken = length (taken v c items);
      handed = handed v c items;
    })
    else None

-- own channels stand before the peer's, and each side's by rising id
abbrev pub precedes : (a b : ChannelKey) → Bool
precedes a b = if same_bool a.own b.own then nat_lt a.id b.id else a.own

abbrev pub insert_key : ChannelKey → List ChannelKey → List ChannelKey
insert_key c [] = c ∷ []
insert_key c (d ∷ ds) = if precedes d c then d ∷ insert_key c ds else c ∷ d ∷ ds

abbrev pub in_order : List ChannelKey → List ChannelKey
in_order [] = []
in_order (c ∷ cs) = insert_key c (in_order cs)

-- the channels that were offered and not rejected, in their order
abbrev pub known_keys : List Item → List ChannelKey
known_keys items = in_order (keys items)
