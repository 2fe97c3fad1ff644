-- Worked values: one channel, as both ends see it, where the window is 4 bytes and 5 are written.
use Rattle.std.specs.Prelude.{List, [], ◌∷◌, true, false, Some, None}
use Rattle.std.proofs.Common.{◌≡◌, refl}
use Rattle.wire_base.specs.declared.frame.Version.TheVariants as version
use Rattle.wire_base.specs.declared.reason.Reason.TheVariants as reason
use Rattle.mux_items.specs.declared.channel.ChannelKey.{ChannelKey}
use Rattle.mux_items.specs.declared.party.Party.TheVariants.{Odd, Even}
use Rattle.mux_items.specs.Bodies.{Offer, OfferAccepted, Content, ContentWritingCompleted, ChannelTerminated, ContentProcessed, frame_on}
use Rattle.mux_items.specs.Items.{Item, Hello, DidOffer, DidAccept, DidWrite, DidRead, DidComplete, Got}
use Rattle.mux_items.specs.Lists.{emitted, taken, handed, read_bytes, unread}
use Rattle.mux_items.specs.Kept.{next_key}
use Rattle.mux_items.specs.Due.{due, sent}
use Rattle.mux_items.specs.Refusals.{frame_refusal}
use Rattle.mux_items.specs.Applying.{Allowed}
use Rattle.mux_items.specs.Sums.{windows, credits}
use Rattle.mux_items.specs.Order.{is_on}

-- the channel as the end that offered it names it, and as the other does
abbrev here : ChannelKey
here = record { id = 1; own = true }

abbrev there : ChannelKey
there = record { id = 1; own = false }

-- the items of the end that offered, as they came
abbrev offered : List Item
offered = DidOffer here (97 ∷ []) 8 ∷ Hello Odd ∷ []

abbrev accepted : List Item
accepted = Got 40 here (OfferAccepted (Some 4)) ∷ offered

abbrev wrote : Item
wrote = DidWrite here (104 ∷ 101 ∷ 108 ∷ 108 ∷ 111 ∷ [])

abbrev acknowledged_two : Item
acknowledged_two = Got 50 here (ContentProcessed 2)

emits_four : emitted version.Two here (wrote ∷ accepted) ≡ 4
emits_four = refl

due_of_write : due version.Two wrote accepted ≡ frame_on here (Content (104 ∷ 101 ∷ 108 ∷ 108 ∷ [])) ∷ []
due_of_write = refl

emits_five : emitted version.Two here (acknowledged_two ∷ wrote ∷ accepted) ≡ 5
emits_five = refl

due_of_credit : due version.Two acknowledged_two (wrote ∷ accepted) ≡ frame_on here (Content (111 ∷ [])) ∷ []
due_of_credit = refl

-- the completion goes once all bytes went, and the termination once the other end completed too
due_of_completion : due version.Two (DidComplete here) (acknowledged_two ∷ wrote ∷ accepted) ≡ frame_on here ContentWritingCompleted ∷ []
due_of_completion = refl

due_of_early_completion : due version.Two (DidComplete here) (wrote ∷ accepted) ≡ []
due_of_early_completion = refl

due_of_last_credit : due version.Two acknowledged_two (DidComplete here ∷ wrote ∷ accepted) ≡ frame_on here (Content (111 ∷ [])) ∷ frame_on here ContentWritingCompleted ∷ []
due_of_last_credit = refl

due_of_both : due version.Two (Got 60 here ContentWritingCompleted) (DidComplete here ∷ acknowledged_two ∷ wrote ∷ accepted) ≡ frame_on here ChannelTerminated ∷ []
due_of_both = refl

here_allowed : Allowed version.Two (acknowledged_two ∷ wrote ∷ accepted)
here_allowed = (record { ready = refl; running = refl; unrefused = refl }, refl, (refl, (record { ready = refl; running = refl; unrefused = refl }, refl, (refl, refl, (record { needed = refl; parity = refl; once = refl; running = refl }, tt)))))

-- the items of the other end
abbrev came : List Item
came = Got 60 there (Content (104 ∷ 101 ∷ 108 ∷ 108 ∷ [])) ∷ DidAccept there 4 ∷ Got 40 there (Offer (97 ∷ []) (Some 8)) ∷ Hello Even ∷ []

abbrev read_all : List Item
read_all = DidRead there 10 ∷ Got 70 there (Content (111 ∷ [])) ∷ DidRead there 2 ∷ came

due_of_read : due version.Two (DidRead there 2) came ≡ frame_on there (ContentProcessed 2) ∷ []
due_of_read = refl

unread_between : unread version.Two there (DidRead there 2 ∷ came) ≡ 108 ∷ 108 ∷ []
unread_between = refl

takes_all : taken version.Two there read_all ≡ 104 ∷ 101 ∷ 108 ∷ 108 ∷ 111 ∷ []
takes_all = refl

hands_five : handed version.Two there read_all ≡ 5
hands_five = refl

leaves_none : unread version.Two there read_all ≡ []
leaves_none = refl

-- a byte more than the window is refused
above_window : frame_refusal version.Two there (Content (111 ∷ [])) came ≡ Some reason.WindowExceeded
above_window = refl

within_window : frame_refusal version.Two there (Content (111 ∷ [])) (DidRead there 2 ∷ came) ≡ None
within_window = refl

there_allowed : Allowed version.Two read_all
there_allowed = (refl, (record { ready = refl; running = refl; unrefused = refl }, refl, (refl, (record { ready = refl; running = refl; unrefused = refl }, refl, (refl, (record { ready = refl; running = refl; unrefused = refl }, refl, (record { needed = refl; parity = refl; once = refl; running = refl }, tt)))))))

-- what reads answered, and what the frames of either end tell
reads_hello : read_bytes version.Two there read_all ≡ 104 ∷ 101 ∷ 108 ∷ 108 ∷ 111 ∷ []
reads_hello = refl

tells_window : windows there (sent version.Two read_all) ≡ 4
tells_window = refl

tells_credit : credits there (sent version.Two read_all) ≡ 5
tells_credit = refl

on_own_channel : is_on here (sent version.Two (wrote ∷ accepted)) ≡ true
on_own_channel = refl

on_no_other : is_on there (sent version.Two (wrote ∷ accepted)) ≡ false
on_no_other = refl

-- the second own channel of the odd side
draws_third : next_key offered ≡ record { id = 3; own = true }
draws_third = refl
