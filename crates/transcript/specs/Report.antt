-- The report of a run.
use Rattle.std.specs.Prelude.{ℕ, zero, suc, ◌+◌, Bool, false, List, [], ◌∷◌, ◌++◌, length, drop, filter, codes, Option, Some, None}
use Rattle.std.specs.List.{flat_map}
use Rattle.std.specs.Fmt.{decimal}
use Rattle.wire_base.specs.declared.frame.Version.{Version}
use Rattle.wire_base.specs.declared.state.Cause.{Cause}
use Rattle.wire_base.specs.declared.state.EndState.{EndState}
use Rattle.wire_base.specs.declared.state.EndState.TheVariants as state
use Rattle.frame_text.specs.Hello.{hello}
use Rattle.mux_items.specs.declared.channel.ChannelKey.{ChannelKey}
use Rattle.mux_items.specs.declared.channel.Tally.{Tally}
use Rattle.mux_items.specs.Items.{ended}
use Rattle.marshalled_handles.specs.Numbers.{adopted_numbers}
use Rattle.marshalled_handles.specs.Stands.{standing}
use Rattle.rpc_items.specs.declared.calls.HandleKey.{HandleKey}
use Rattle.rpc_items.specs.Drawn.{drawn}
use Rattle.rpc_items.specs.Keys.{own_key, peer_key}
use Rattle.rpc_items.specs.Made.{last_handle}
use Rattle.rpc_items.specs.Outcomes.{Look, Known, NotYet, NoRequest}
use Rattle.endpoint_items.specs.Connections.{items_of}
use Rattle.endpoint_items.specs.Items.{EndItem}
use Rattle.endpoint_items.specs.Layers.{mux_of, rpc_of}
use Rattle.endpoint_items.specs.Outcomes.{outcome_on}
use Rattle.mux_items.specs.Views.{tally_of, known_keys}
use Rattle.mux_run.specs.declared.steps.Side.{Side}
use Rattle.mux_run.specs.declared.steps.Side.TheVariants.{A, B}
use Rattle.mux_run.specs.Run.{Terms, out}
use Rattle.endpoint_run.specs.declared.steps.Step.{Step}
use Rattle.endpoint_run.specs.declared.answers.DuoAnswer.{DuoAnswer}
use Rattle.endpoint_run.specs.declared.answers.DuoAnswer.TheVariants as duo
use Rattle.endpoint_run.specs.Run.{EndWorld, start}
use Rattle.endpoint_run.specs.Answers.{answer, made_step, side_of, world_by, run}
use Rattle.text_words.specs.Written.{line_feed, side_word, owner_word, name_at, is_same_side}
use Rattle.transcript.specs.Words.{channel_text, cause_text, phase_text, outcome_text, life_text, reply_text, event_line, emitted_line}

-- what a step answered, and the lines of its events
abbrev pub answer_lines : Side → DuoAnswer → List ℕ
answer_lines side (duo.Replied r events) = reply_text side r ++ line_feed ++ flat_map (event_line side) events
answer_lines side (duo.Delivered count events) = codes "delivered " ++ decimal count ++ line_feed ++ flat_map (event_line side) events
answer_lines side duo.Ended = codes "ended" ++ line_feed
answer_lines side duo.OutOfMemory = []

-- what was emitted since so many bytes were
abbrev pub newly_out : Version → (nonce : List ℕ) → (before now : List EndItem) → List ℕ
newly_out v nonce before now = drop (length (out v nonce (mux_of v before))) (out v nonce (mux_of v now))

-- the k-th step: its answer, its events, and what either side emitted in it
abbrev pub step_lines : Terms → (k : ℕ) → Step → EndWorld → List ℕ
step_lines terms k s w =
    let after = world_by terms (made_step s) w in
    decimal k ++ codes " " ++ answer_lines (side_of s) (answer terms s w)
    ++ emitted_line A (newly_out terms.version terms.nonce_a w.a.items after.a.items)
    ++ emitted_line B (newly_out terms.version terms.nonce_b w.b.items after.b.items)

-- the steps from the k-th on, made in this world
abbrev pub steps_lines : Terms → (k : ℕ) → EndWorld → List Step → List ℕ
steps_lines terms k w [] = []
steps_lines terms k w (s ∷ steps) = step_lines terms k s w ++ steps_lines terms (k + 1) (world_by terms (made_step s) w) steps

abbrev pub state_text : Option Cause → List ℕ
state_text None = codes "running"
state_text (Some c) = codes "ended " ++ cause_text c

-- the same by the state that an end tells
abbrev pub shown_state : EndState → List ℕ
shown_state state.Running = codes "running"
shown_state (state.Ended c) = codes "ended " ++ cause_text c
shown_state state.Stopped = []

abbrev pub tally_text : Tally → List ℕ
tally_text t =
    phase_text t.phase ++ codes " written " ++ decimal t.written ++ codes " emitted " ++ decimal t.emitted
    ++ codes " taken " ++ decimal t.taken ++ codes " handed " ++ decimal t.handed

abbrev pub channel_line_of : Side → ChannelKey → Option Tally → List ℕ
channel_line_of side key None = []
channel_line_of side key (Some t) = side_word side ++ codes " " ++ channel_text side key ++ codes " " ++ tally_text t ++ line_feed

abbrev pub channel_line : Version → Side → List EndItem → ChannelKey → List ℕ
channel_line v side items key = channel_line_of side key (tally_of v key (mux_of v items))

-- the line of a request of a connection; one that was forgotten has none
abbrev pub request_line_of : Side → ChannelKey → (n : ℕ) → Look → List ℕ
request_line_of side key n (Known o) = side_word side ++ codes " " ++ channel_text side key ++ codes " request " ++ decimal n ++ codes " " ++ outcome_text o ++ line_feed
request_line_of side key n NotYet = side_word side ++ codes " " ++ channel_text side key ++ codes " request " ++ decimal n ++ codes " pending" ++ line_feed
request_line_of side key n NoRequest = []

abbrev pub request_line : Version → Side → List EndItem → ChannelKey → (n : ℕ) → List ℕ
request_line v side items key n = request_line_of side key n (outcome_on false v key n items)

-- the lines of the numbers from 1 to this one
abbrev pub lines_to : (ℕ → List ℕ) → (last : ℕ) → List ℕ
lines_to line zero = []
lines_to line (suc n) = lines_to line n ++ line (suc n)

-- the lines of the requests that the connection of a channel drew numbers for
abbrev pub request_lines : Version → Side → List EndItem → ChannelKey → List ℕ
request_lines v side items key = lines_to (request_line v side items key) (drawn (items_of (rpc_of v key items)))

-- the line of a handle of a connection, by whether it lives; one that wasn't made or adopted has none
abbrev pub handle_line_of : Side → ChannelKey → HandleKey → (live : Option Bool) → List ℕ
handle_line_of side key handle (Some live) =
    side_word side ++ codes " " ++ channel_text side key ++ codes " handle " ++ owner_word handle.own ++ codes " " ++ decimal handle.number ++ codes " " ++ life_text live ++ line_feed
handle_line_of side key handle None = []

abbrev pub handle_line : Version → Side → List EndItem → ChannelKey → HandleKey → List ℕ
handle_line v side items key handle = handle_line_of side key handle (standing handle (items_of (rpc_of v key items)))

abbrev pub own_handle_line : Version → Side → List EndItem → ChannelKey → (n : ℕ) → List ℕ
own_handle_line v side items key n = handle_line v side items key (own_key n)

abbrev pub peer_handle_line : Version → Side → List EndItem → ChannelKey → (n : ℕ) → List ℕ
peer_handle_line v side items key n = handle_line v side items key (peer_key n)

-- the lines of the handles that the connection of a channel made
abbrev pub own_handle_lines : Version → Side → List EndItem → ChannelKey → List ℕ
own_handle_lines v side items key = lines_to (own_handle_line v side items key) (last_handle (items_of (rpc_of v key items)))

-- the lines of those that it adopted from the peer, by rising number
abbrev pub peer_handle_lines : Version → Side → List EndItem → ChannelKey → List ℕ
peer_handle_lines v side items key = flat_map (peer_handle_line v side items key) (adopted_numbers (items_of (rpc_of v key items)))

-- the lines of a channel: what came of it, its requests, and the handles of both ends
abbrev pub known_lines : Version → Side → List EndItem → ChannelKey → List ℕ
known_lines v side items key = channel_line v side items key ++ request_lines v side items key ++ own_handle_lines v side items key ++ peer_handle_lines v side items key

-- of these channels, as a side names them, those that another side, or itself, offered
abbrev pub keys_of : (side offering : Side) → List ChannelKey → List ChannelKey
keys_of side offering keys = filter (λ key. is_same_side (name_at side key).offering offering) keys

-- the lines of the channels that one side offered, by rising id, as a side knows them
abbrev pub channel_lines : Version → (side offering : Side) → List EndItem → List ℕ
channel_lines v side offering items = flat_map (known_lines v side items) (keys_of side offering (known_keys (mux_of v items)))

-- how a side stands at the end, and its channels: those that A offered, then those that B offered
abbrev pub summary : Version → Side → List EndItem → List ℕ
summary v side items =
    side_word side ++ codes " " ++ state_text (ended (mux_of v items)) ++ line_feed
    ++ channel_lines v side A items ++ channel_lines v side B items

-- the lines before the first step, with the handshakes of both ends
abbrev pub opening_lines : Terms → List ℕ
opening_lines terms = codes "report 1\n0 start\n" ++ emitted_line A (hello terms.version terms.nonce_a) ++ emitted_line B (hello terms.version terms.nonce_b)

-- the lines behind the last step: how both sides stand in this world
abbrev pub closing_lines : Terms → EndWorld → List ℕ
closing_lines terms w = codes "state\n" ++ summary terms.version A w.a.items ++ summary terms.version B w.b.items ++ codes "end\n"

-- the report of the run of the steps
abbrev pub report_text : Terms → List Step → List ℕ
report_text terms steps = opening_lines terms ++ steps_lines terms 1 start steps ++ closing_lines terms (run terms steps)
