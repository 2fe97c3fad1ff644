-- Worked values: A offers a channel, B accepts it with a window of 4 bytes; of the 5 bytes that A writes 4 go. At each moment
-- the four places of the credit hold 4 bytes together.
use Rattle.std.specs.Prelude.{ℕ, List, [], ◌∷◌, ◌++◌, length, true, false, Some}
use Rattle.std.proofs.Common.{◌≡◌, refl}
use Rattle.wire_base.specs.declared.frame.Version.TheVariants as version
use Rattle.mux_items.specs.declared.call.Call.TheVariants as call
use Rattle.mux_items.specs.declared.channel.ChannelKey.{ChannelKey}
use Rattle.mux_items.specs.Bodies.{OfferAccepted, ContentWritingCompleted, frame_on}
use Rattle.mux_items.specs.Items.{Item}
use Rattle.mux_items.specs.Lists.{window, granted, emitted, unread}
use Rattle.mux_items.proofs.Staging.{Done, Over, stage_at}
use Rattle.mux_run.specs.Run.{Terms, run}
use Rattle.mux_run.specs.Between.{ahead}
use Rattle.mux_run.specs.declared.steps.Side.TheVariants.{A, B}
use Rattle.mux_run.specs.declared.steps.Step.{Step}
use Rattle.mux_run.specs.declared.steps.Step.TheVariants as step
use Rattle.mux_credit.specs.Credit.{unspent, content_in_flight, acknowledgements_in_flight, credit_sum}

-- the channel as A names it, and as B does
abbrev at_a : ChannelKey
at_a = record { id = 1; own = true }

abbrev at_b : ChannelKey
at_b = record { id = 1; own = false }

abbrev terms : Terms
terms = record { version = version.Three; nonce_a = []; nonce_b = [] }

abbrev a_items : List Step → List Item
a_items steps = (run terms steps).a.items

abbrev b_items : List Step → List Item
b_items steps = (run terms steps).b.items

-- where the credit for what A sends is, in this order: unspent at A, on its way to B, unread at B, on its way back
abbrev places : List Step → List ℕ
places steps =
    unspent version.Three at_a (a_items steps)
    ∷ content_in_flight version.Three at_b (b_items steps) (a_items steps)
    ∷ length (unread version.Three at_b (b_items steps))
    ∷ acknowledgements_in_flight version.Three at_b (b_items steps) (a_items steps)
    ∷ []

abbrev together : List Step → ℕ
together steps = credit_sum version.Three at_b (b_items steps) (a_items steps)

abbrev offered : List Step
offered = step.Call A (call.Offer (97 ∷ []) 8) ∷ step.Deliver B 1000 ∷ step.Call B (call.Accept at_b 4) ∷ []

-- the acceptance is on its way, with the whole window
acceptance_in_flight : ahead version.Three (a_items offered) (b_items offered) ≡ frame_on at_b (OfferAccepted (Some 4)) ∷ []
acceptance_in_flight = refl

abbrev accepted : List Step
accepted = offered ++ step.Deliver A 1000 ∷ []

has_window : window at_b (b_items accepted) ≡ 4
has_window = refl

all_unspent : places accepted ≡ 4 ∷ 0 ∷ 0 ∷ 0 ∷ []
all_unspent = refl

abbrev wrote : List Step
wrote = accepted ++ step.Call A (call.Write at_a (104 ∷ 101 ∷ 108 ∷ 108 ∷ 111 ∷ [])) ∷ []

emits_four : emitted version.Three at_a (a_items wrote) ≡ 4
emits_four = refl

all_in_flight : places wrote ≡ 0 ∷ 4 ∷ 0 ∷ 0 ∷ []
all_in_flight = refl

-- a part of the frame changes nothing
abbrev cut : List Step
cut = wrote ++ step.Deliver B 9 ∷ []

still_in_flight : places cut ≡ 0 ∷ 4 ∷ 0 ∷ 0 ∷ []
still_in_flight = refl

abbrev came : List Step
came = cut ++ step.Deliver B 1000 ∷ []

all_unread : places came ≡ 0 ∷ 0 ∷ 4 ∷ 0 ∷ []
all_unread = refl

-- of what is read the acknowledgement is on its way
abbrev read : List Step
read = came ++ step.Call B (call.Read at_b 3) ∷ []

three_on_their_way_back : places read ≡ 0 ∷ 0 ∷ 1 ∷ 3 ∷ []
three_on_their_way_back = refl

-- with it the last byte goes
abbrev told : List Step
told = read ++ step.Deliver A 1000 ∷ []

last_in_flight : places told ≡ 2 ∷ 1 ∷ 1 ∷ 0 ∷ []
last_in_flight = refl

grants_seven : granted version.Three at_a (a_items told) ≡ 7
grants_seven = refl

sums : together accepted ∷ together wrote ∷ together cut ∷ together came ∷ together read ∷ together told ∷ [] ≡ 4 ∷ 4 ∷ 4 ∷ 4 ∷ 4 ∷ 4 ∷ []
sums = refl

-- after a completion no content goes, and after a termination nothing
abbrev completed : List Step
completed = told ++ step.Call A (call.Complete at_a) ∷ []

completion_is_last : ahead version.Three (b_items (completed ++ step.Deliver B 8 ∷ [])) (a_items completed) ≡ frame_on at_a ContentWritingCompleted ∷ []
completion_is_last = refl

done : stage_at version.Three at_a (a_items completed) ≡ Done
done = refl

over : stage_at version.Three at_a (a_items (completed ++ step.Call A (call.Terminate at_a) ∷ [])) ≡ Over
over = refl
