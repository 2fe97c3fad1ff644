-- The frames that an item makes.
use Rattle.std.specs.Prelude.{ℕ, zero, suc, min, List, [], ◌∷◌, ◌++◌, length, take, drop, map, Bool, not, ◌&&◌, ◌==◌, if◌then◌else◌, Option, Some, None}
use Rattle.std.specs.List.{flat_map}
use Rattle.frame_text.specs.Frames.{is_empty}
use Rattle.wire_base.specs.declared.frame.Version.{Version}
use Rattle.mux_items.specs.declared.channel.ChannelKey.{ChannelKey}
use Rattle.mux_items.specs.Bodies.{FrameBody, Offer, OfferAccepted, Content, ContentWritingCompleted, ChannelTerminated, ContentProcessed, ChannelFrame, frame_on, same_key, is_one}
use Rattle.mux_items.specs.Limits.{piece_size}
use Rattle.mux_items.specs.Items.{Item, Hello, DidOffer, DidAccept, DidWrite, DidRead, DidComplete, DidTerminate, Got, Rejected, End, is_running}
use Rattle.mux_items.specs.Lists.{written, emitted, completion_emitted, termination_emitted, unread, is_live}

-- bytes in pieces of this size, but for the last
abbrev pub pieces_in : (turns : ℕ) → List ℕ → List (List ℕ)
pieces_in zero bytes = []
pieces_in (suc turns) bytes = if is_empty bytes then [] else take piece_size bytes ∷ pieces_in turns (drop piece_size bytes)

abbrev pub pieces : List ℕ → List (List ℕ)
pieces bytes = pieces_in (length bytes) bytes

abbrev pub content_frames : ChannelKey → List ℕ → List ChannelFrame
content_frames c bytes = map (λ piece. frame_on c (Content piece)) (pieces bytes)

-- the bytes that become emitted as the count goes from before to now
abbrev pub span : (before now : ℕ) → List ℕ → List ℕ
span before now bytes = drop before (take now bytes)

abbrev pub newly_emitted : Version → ChannelKey → Item → List Item → List ℕ
newly_emitted v c item items = span (emitted v c items) (emitted v c (item ∷ items)) (written c (item ∷ items))

abbrev pub completes : Version → ChannelKey → Item → List Item → Bool
completes v c item items = completion_emitted v c (item ∷ items) && not (completion_emitted v c items)

abbrev pub terminates : Version → ChannelKey → Item → List Item → Bool
terminates v c item items = termination_emitted v c (item ∷ items) && not (termination_emitted v c items)

-- a frame that an item itself makes, then the content that becomes emitted, the completion and the termination
abbrev pub due_on : Version → ChannelKey → List ChannelFrame → Item → List Item → List ChannelFrame
due_on v c first item items =
    first ++ content_frames c (newly_emitted v c item items)
    ++ (if completes v c item items then frame_on c ContentWritingCompleted ∷ [] else [])
    ++ (if terminates v c item items then frame_on c ChannelTerminated ∷ [] else [])

-- a window as it is written: version 1 has none
abbrev pub written_window : Version → ℕ → Option ℕ
written_window v size = if is_one v then None else Some size

-- the acknowledgement of a read that moved so many bytes
abbrev pub acknowledgement : Version → ChannelKey → (count : ℕ) → List Item → List ChannelFrame
acknowledgement v c count items =
    if is_one v then []
    else if count == 0 then []
    else if is_running items && is_live v c items then frame_on c (ContentProcessed count) ∷ []
    else []

-- the frames that the newest item makes, after the older ones
abbrev pub due : Version → Item → List Item → List ChannelFrame
due v (Hello party) items = []
due v (DidOffer c name size) items = due_on v c (frame_on c (Offer name (written_window v size)) ∷ []) (DidOffer c name size) items
due v (DidAccept c size) items = due_on v c (frame_on c (OfferAccepted (written_window v size)) ∷ []) (DidAccept c size) items
due v (DidWrite c bytes) items = due_on v c [] (DidWrite c bytes) items
due v (DidRead c max) items = acknowledgement v c (min max (length (unread v c items))) items
due v (DidComplete c) items = due_on v c [] (DidComplete c) items
due v (DidTerminate c) items = due_on v c [] (DidTerminate c) items
due v (Got place c body) items = due_on v c [] (Got place c body) items
due v (Rejected place c body) items = frame_on c ChannelTerminated ∷ []
due v (End cause) items = []

-- all frames that were due, oldest first
abbrev pub sent : Version → List Item → List ChannelFrame
sent v [] = []
sent v (item ∷ items) = sent v items ++ due v item items

-- all frames that were applied, oldest first
abbrev pub got : List Item → List ChannelFrame
got [] = []
got (Got place key body ∷ items) = got items ++ frame_on key body ∷ []
got (Rejected place key body ∷ items) = got items ++ frame_on key body ∷ []
got (item ∷ items) = got items

-- the content of a frame
abbrev pub content_of : FrameBody → List ℕ
content_of (Content bytes) = bytes
content_of body = []

-- the same, where the frame is on this channel
abbrev pub content_on : ChannelKey → ChannelFrame → List ℕ
content_on c f = if same_key f.key c then content_of f.body else []

-- the content of frames on a channel, oldest first
abbrev pub contents : ChannelKey → List ChannelFrame → List ℕ
contents c frames = flat_map (content_on c) frames
