-- Worked values of runs in version 3.
use Rattle.std.specs.Prelude.{ℕ, ◌-◌, List, [], ◌∷◌, ◌++◌, length, take, drop, map, true, false, Some}
use Rattle.std.proofs.Common.{◌≡◌, refl}
use Rattle.wire_base.specs.declared.frame.Version.TheVariants as version
use Rattle.wire_base.specs.declared.state.Cause.TheVariants as cause
use Rattle.mux_items.specs.declared.channel.ChannelKey.{ChannelKey}
use Rattle.mux_items.specs.Bodies.{Offer, Content, ChannelTerminated, frame_on}
use Rattle.mux_items.specs.Items.{Item, DidAccept, DidRead, Got, End}
use Rattle.mux_run.specs.Between.{ahead}
use Rattle.mux_run.specs.Moments.{IsMoment}
use Rattle.mux_run.specs.Run.{Terms, out, run}
use Rattle.mux_run.specs.Spending.{RunStep, Makes, Spends, run_through}
use Rattle.mux_run.specs.declared.steps.Side.TheVariants.{A, B}
use Rattle.mux_items.specs.declared.call.Call.TheVariants as call
use Rattle.mux_run.specs.declared.steps.Step.{Step}
use Rattle.mux_run.specs.declared.steps.Step.TheVariants as step

-- the channel as A names it, and as B does
abbrev at_a : ChannelKey
at_a = record { id = 1; own = true }

abbrev at_b : ChannelKey
at_b = record { id = 1; own = false }

abbrev terms : Terms
terms = record { version = version.Three; nonce_a = []; nonce_b = [] }

-- A offers a channel, B accepts it with a window of 4 bytes, and of the 5 that A writes B reads 4 and then 1

abbrev offer : Step
offer = step.Call A (call.Offer (97 ∷ []) 8)

abbrev accepted : List Step
accepted = offer ∷ step.Deliver B 1000 ∷ step.Call B (call.Accept at_b 4) ∷ step.Deliver A 1000 ∷ []

abbrev wrote : List Step
wrote = accepted ++ step.Call A (call.Write at_a (104 ∷ 101 ∷ 108 ∷ 108 ∷ 111 ∷ [])) ∷ []

-- the bytes that a step makes A emit, and B
abbrev a_emits : Step → List Step → List ℕ
a_emits s steps = drop (length (out version.Three [] (run terms steps).a.items)) (out version.Three [] (run terms (steps ++ s ∷ [])).a.items)

abbrev b_emits : Step → List Step → List ℕ
b_emits s steps = drop (length (out version.Three [] (run terms steps).b.items)) (out version.Three [] (run terms (steps ++ s ∷ [])).b.items)

-- the items that a step makes A have, and B, newest first
abbrev newer : (older items : List Item) → List Item
newer older items = take (length items - length older) items

abbrev a_adds : Step → List Step → List Item
a_adds s steps = newer (run terms steps).a.items (run terms (steps ++ s ∷ [])).a.items

abbrev b_adds : Step → List Step → List Item
b_adds s steps = newer (run terms steps).b.items (run terms (steps ++ s ∷ [])).b.items

-- 4 bytes for the array, the code, the id and the origin, 2 for the head of the payload, and 4 for the payload
offer_comes : (run terms (offer ∷ step.Deliver B 1000 ∷ [])).b ≡ record { items = Got 0 at_b (Offer (97 ∷ []) (Some 8)) ∷ []; delivered = 10 }
offer_comes = refl

-- a part of a frame is no item
part_adds : b_adds (step.Deliver B 9) wrote ≡ []
part_adds = refl

rest_adds : b_adds (step.Deliver B 1000) (wrote ++ step.Deliver B 9 ∷ []) ≡ Got 10 at_b (Content (104 ∷ 101 ∷ 108 ∷ 108 ∷ [])) ∷ []
rest_adds = refl

abbrev came : List Step
came = wrote ++ step.Deliver B 1000 ∷ []

-- the acknowledgement of what is read lets the fifth byte go
abbrev read : Step
read = step.Call B (call.Read at_b 100)

read_emits : b_emits read came ≡ 0x94 ∷ 0x05 ∷ 0x01 ∷ 0xff ∷ 0xc4 ∷ 0x02 ∷ 0x91 ∷ 0x04 ∷ []
read_emits = refl

fifth_is_emitted : a_emits (step.Deliver A 1000) (came ++ read ∷ []) ≡ 0x94 ∷ 0x02 ∷ 0x01 ∷ 0x01 ∷ 0xc4 ∷ 0x01 ∷ 0x6f ∷ []
fifth_is_emitted = refl

-- two channels: what goes on the one leaves the window of the other

abbrev second_at_a : ChannelKey
second_at_a = record { id = 2; own = true }

abbrev second_at_b : ChannelKey
second_at_b = record { id = 2; own = false }

abbrev two_accepted : List Step
two_accepted = offer ∷ offer ∷ step.Deliver B 1000 ∷ step.Call B (call.Accept at_b 1) ∷ step.Call B (call.Accept second_at_b 3) ∷ step.Deliver A 1000 ∷ []

abbrev write_first : Step
write_first = step.Call A (call.Write at_a (0x61 ∷ 0x62 ∷ []))

first_is_split : a_emits write_first two_accepted ≡ 0x94 ∷ 0x02 ∷ 0x01 ∷ 0x01 ∷ 0xc4 ∷ 0x01 ∷ 0x61 ∷ []
first_is_split = refl

second_is_whole : a_emits (step.Call A (call.Write second_at_a (0x7a ∷ 0x7a ∷ 0x7a ∷ []))) (two_accepted ++ write_first ∷ []) ≡ 0x94 ∷ 0x02 ∷ 0x02 ∷ 0x01 ∷ 0xc4 ∷ 0x03 ∷ 0x7a ∷ 0x7a ∷ 0x7a ∷ []
second_is_whole = refl

-- a delivery of both frames has a moment after the first

abbrev both_sent : List Step
both_sent = two_accepted ++ write_first ∷ step.Call A (call.Write second_at_a (0x7a ∷ [])) ∷ []

abbrev older : List Item
older = DidAccept second_at_b 3 ∷ DidAccept at_b 1 ∷ Got 10 second_at_b (Offer (97 ∷ []) (Some 8)) ∷ Got 0 at_b (Offer (97 ∷ []) (Some 8)) ∷ []

abbrev after_first : List Item
after_first = Got 20 at_b (Content (0x61 ∷ [])) ∷ older

abbrev after_both : List Item
after_both = Got 27 second_at_b (Content (0x7a ∷ [])) ∷ after_first

before_delivery : (run terms both_sent).b.items ≡ older
before_delivery = refl

after_delivery : (run terms (both_sent ++ step.Deliver B 1000 ∷ [])).b.items ≡ after_both
after_delivery = refl

between_both : IsMoment older after_both after_first
between_both = record { since = Got 20 at_b (Content (0x61 ∷ [])) ∷ []; later = Got 27 second_at_b (Content (0x7a ∷ [])) ∷ []; is = refl; more = refl }

second_is_ahead : ahead version.Three after_first (run terms both_sent).a.items ≡ frame_on second_at_a (Content (0x7a ∷ [])) ∷ []
second_is_ahead = refl

-- A terminates while content of B is on its way

abbrev terminate : Step
terminate = step.Call A (call.Terminate at_a)

abbrev terminated : List Step
terminated = accepted ++ terminate ∷ []

terminate_emits : a_emits terminate accepted ≡ 0x93 ∷ 0x04 ∷ 0x01 ∷ 0x01 ∷ []
terminate_emits = refl

abbrev write_back : Step
write_back = step.Call B (call.Write at_b (0x78 ∷ []))

abbrev crossed : List Step
crossed = terminated ++ write_back ∷ []

write_back_emits : b_emits write_back terminated ≡ 0x94 ∷ 0x02 ∷ 0x01 ∷ 0xff ∷ 0xc4 ∷ 0x01 ∷ 0x78 ∷ []
write_back_emits = refl

abbrev ignored : List Step
ignored = crossed ++ step.Deliver A 1000 ∷ []

content_is_ignored : a_adds (step.Deliver A 1000) crossed ≡ Got 8 at_a (Content (0x78 ∷ [])) ∷ []
content_is_ignored = refl

ignoring_emits : a_emits (step.Deliver A 1000) crossed ≡ []
ignoring_emits = refl

closing_emits : b_emits (step.Deliver B 1000) ignored ≡ 0x93 ∷ 0x04 ∷ 0x01 ∷ 0xff ∷ []
closing_emits = refl

abbrev closing : List Step
closing = ignored ++ step.Deliver B 1000 ∷ []

closed_at_a : a_adds (step.Deliver A 1000) closing ≡ Got 15 at_a ChannelTerminated ∷ []
closed_at_a = refl

-- a call on the closed channel is refused and changes nothing
nothing_is_kept : a_adds write_first (closing ++ step.Deliver A 1000 ∷ []) ≡ []
nothing_is_kept = refl

-- both complete

abbrev complete_a : Step
complete_a = step.Call A (call.Complete at_a)

abbrev complete_b : Step
complete_b = step.Call B (call.Complete at_b)

complete_emits : a_emits complete_a accepted ≡ 0x93 ∷ 0x03 ∷ 0x01 ∷ 0x01 ∷ []
complete_emits = refl

abbrev completed : List Step
completed = accepted ++ complete_a ∷ complete_b ∷ []

complete_back_emits : b_emits complete_b (accepted ++ complete_a ∷ []) ≡ 0x93 ∷ 0x03 ∷ 0x01 ∷ 0xff ∷ []
complete_back_emits = refl

finished_emits : b_emits (step.Deliver B 1000) completed ≡ 0x93 ∷ 0x04 ∷ 0x01 ∷ 0xff ∷ []
finished_emits = refl

abbrev finished : List Step
finished = completed ++ step.Deliver B 1000 ∷ []

last_emits : a_emits (step.Deliver A 1000) finished ≡ 0x93 ∷ 0x04 ∷ 0x01 ∷ 0x01 ∷ []
last_emits = refl

nothing_more : b_emits (step.Deliver B 1000) (finished ++ step.Deliver A 1000 ∷ []) ≡ []
nothing_more = refl

-- A's stream ends: it then takes no call but reads, and no delivery

abbrev ended : List Step
ended = accepted ++ step.End A ∷ []

end_adds : a_adds (step.End A) accepted ≡ End cause.InputEnded ∷ []
end_adds = refl

nothing_is_delivered : a_adds (step.Deliver A 1000) (ended ++ write_back ∷ []) ≡ []
nothing_is_delivered = refl

write_is_refused : a_adds write_first ended ≡ []
write_is_refused = refl

read_is_taken : a_adds (step.Call A (call.Read at_a 5)) ended ≡ DidRead at_a 5 ∷ []
read_is_taken = refl

-- B is spent with four unread bytes, and an offer on its way: it takes reads alone and gets nothing more

abbrev spent : List RunStep
spent = map Makes came ++ Makes offer ∷ Spends B ∷ []

abbrev spent_adds : Step → List Item
spent_adds s = newer (run_through terms spent).b.items (run_through terms (spent ++ Makes s ∷ [])).b.items

spent_is_refused : spent_adds write_back ≡ []
spent_is_refused = refl

spent_is_read : spent_adds read ≡ DidRead at_b 100 ∷ []
spent_is_read = refl

spent_gets_nothing : spent_adds (step.Deliver B 1000) ≡ []
spent_gets_nothing = refl
