-- What calls and frames make of an end.
use Rattle.std.specs.Prelude.{◌≡◌, ℕ, ◌+◌, List, ◌++◌, drop, Bool, true, false, if◌then◌else◌, Option, Result, Ok, Err}
use Rattle.wire_base.specs.declared.fault.CallFault.{CallFault}
use Rattle.wire_base.specs.declared.fault.CallFault.TheVariants as fault
use Rattle.wire_base.specs.declared.state.Cause.{Cause}
use Rattle.wire_base.specs.declared.state.EndState.{EndState}
use Rattle.wire_base.specs.declared.state.EndState.TheVariants as state
use Rattle.wire_base.specs.States.{state_by}
use Rattle.frame_reader.specs.Unread.{Unread}
use Rattle.frame_text.specs.Front.{Front, Whole, Short, Broken}
use Rattle.frame_text.specs.Reading.{front}
use Rattle.mux_handshake.specs.Handshake.{handshake}
use Rattle.mux_items.specs.declared.channel.MuxEvent.TheVariants as event
use Rattle.mux_items.specs.declared.party.Party.{Party}
use Rattle.mux_items.specs.Bodies.{ChannelFrame, frame_texts, taken_frame}
use Rattle.mux_items.specs.Items.{Item, End, Hello, party_or_neither}
use Rattle.mux_state.specs.Book.{Book, due_of_book, frame_in, is_ready_book, next_book}
use Rattle.mux_end.specs.declared.step.MuxStep.{MuxStep}
use Rattle.mux_end.specs.declared.step.MuxStep.TheVariants as step
use Rattle.mux_end.specs.Arrivals.{Arrival, Greets, Applies, Waits, Refuses, arrival_of_handshake, frame_arrival, refused_at}
use Rattle.mux_end.specs.Keeps.{event_by, item_in}
use Rattle.mux_end.specs.Stands.{EndValue}

abbrev pub state_in : (stopped : Bool) → Option Cause → EndState
state_in true cause = state.Stopped
state_in false cause = state_by cause

-- an end by what it holds
abbrev pub value_in : (nonce : List ℕ) → Book → (output : List ℕ) → Unread → (stopped : Bool) → EndValue
value_in nonce book output reader stopped = record {
  version = book.version;
  nonce = nonce;
  book = book;
  output = output;
  at = reader.at;
  rest = reader.rest;
  state = state_in stopped book.cause;
}

abbrev pub with_state : EndState → EndValue → EndValue
with_state s end = record end { state = s }

abbrev pub with_output : List ℕ → EndValue → EndValue
with_output bytes end = record end { output = bytes }

abbrev pub with_rest : List ℕ → EndValue → EndValue
with_rest bytes end = record end { rest = bytes }

-- one more item of a running end, and the frames that it makes due
abbrev pub with_item : Item → EndValue → EndValue
with_item item end = record end { book = next_book item end.book; output = end.output ++ frame_texts end.version (due_of_book item end.book) }

-- a whole frame or handshake of so many bytes goes from the front
abbrev pub with_applied : ℕ → EndValue → EndValue
with_applied size end = record end { at = end.at + size; rest = drop size end.rest }

-- the peer's handshake, and the end
abbrev pub with_greeting : Party → EndValue → EndValue
with_greeting party end = record end { book = next_book (Hello party) end.book }

abbrev pub with_end : Cause → EndValue → EndValue
with_end cause end = record end { book = next_book (End cause) end.book; state = state.Ended cause }

-- want of memory stops an end
abbrev pub finished : {A : Type 0} → Result A CallFault → EndValue → EndValue
finished (Ok x) end = end
finished (Err (fault.Refused r)) end = end
finished (Err fault.OutOfMemory) end = with_state state.Stopped end

-- what the next bytes are to an end, by its book
abbrev pub frame_arrives : EndValue → ChannelFrame → (size : ℕ) → Arrival
frame_arrives end f size = frame_arrival f end.at size (frame_in f.key f.body end.book)

abbrev pub front_arrives : EndValue → Front → Arrival
front_arrives end (Whole frame size) = frame_arrives end (taken_frame (party_or_neither end.book.party) frame) size
front_arrives end Short = Waits
front_arrives end (Broken offset r) = Refuses (end.at + offset) r

abbrev pub arrives : EndValue → Arrival
arrives end = if is_ready_book end.book then front_arrives end (front end.version end.rest) else arrival_of_handshake end.at (handshake end.version end.nonce end.rest)

-- what a step makes of a running end
abbrev pub Steps : (old new : EndValue) → Arrival → MuxStep → Type 0
Steps old new (Greets party size) (step.Event e) = (e ≡ event.Ready) × (new ≡ with_applied size (with_greeting party old))
Steps old new (Applies key body size) (step.Event e) = (e ≡ event_by key body old.book) × (new ≡ with_applied size (with_item (item_in old.at key body old.book) old))
Steps old new Waits step.Short = new ≡ old
Steps old new (Refuses place r) (step.Ended c) = (c ≡ refused_at place r) × (new ≡ with_end c old)
Steps old new arrival step.OutOfMemory = new.state ≡ state.Stopped
Steps old new arrival reply = ⊥
