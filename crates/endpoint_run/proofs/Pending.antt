-- What an item leaves of the bytes that connections read and didn't apply.
use Rattle.std.specs.Prelude.{if◌then◌else◌, ◌&&◌, ◌||◌, Bool, true, false}
use Rattle.std.specs.List.{list_any}
use Rattle.std.proofs.Common.{◌≡◌, ℕ, ◌+◌, ◌<◌, ◌≤◌, List, [], ◌∷◌, ◌++◌, length, drop, refl, sym, ◌∙◌, ap, subst, inl, inr, arith, length-append, length-drop, Some, None}
use Rattle.std.proofs.lemmas.Bool.{cases_Bool, and_parts}
use Rattle.wire_base.specs.declared.frame.Version.{Version}
use Rattle.wire_base.specs.declared.reason.Reason.{Reason}
use Rattle.wire_base.specs.declared.state.Cause.{Cause}
use Rattle.wire_base.specs.declared.state.Cause.TheVariants as cause
use Rattle.mux_items.specs.declared.channel.ChannelKey.{ChannelKey}
use Rattle.mux_items.specs.Applying.{place_at}
use Rattle.mux_items.specs.Bodies.{Content, same_key}
use Rattle.mux_items.specs.Items.{Item, Got}
use Rattle.mux_items.specs.Lists.{taken, handed, heeds, is_dropped, unread_count, unread}
use Rattle.mux_items.proofs.Keys.{same_key_refl, same_key_true}
use Rattle.mux_items.proofs.Window.{length-unread}
use Rattle.rpc_items.specs.declared.messages.Message.{Message}
use Rattle.endpoint_items.specs.Items.{EndItem, Mux, GotMessage, RefusedMessage, attached_keys}
use Rattle.endpoint_items.specs.Connections.{Connection, is_attached, end_for, end_by}
use Rattle.endpoint_items.specs.Layers.{mux_of, rpc_of}
use Rattle.endpoint_items.specs.Bytes.{is_read_on, joined, consumed, rest_of}
use Rattle.endpoint_items.specs.Allowed.{AreAllowed}
use Rattle.endpoint_items.proofs.Attached.{still_attached, got_attached}
use Rattle.endpoint_items.proofs.AllRead.{IsAllRead, refused_attached, all_read}
use Rattle.endpoint_items.proofs.AttachedKeys.{AreApart, attached_apart}
use Rattle.endpoint_run.specs.Next.{pending, pending_on}
use Rattle.endpoint_run.proofs.Shorter.{content_size}

pub pending_is : (v : Version) (c : ChannelKey) (items : List EndItem) → is_attached (rpc_of v c items) ≡ true → pending v c items ≡ length (rest_of v c items)
pending_is v c items e = ap (λ b. if b then length (rest_of v c items) else 0) e

pending_most : (v : Version) (c : ChannelKey) (items : List EndItem) → pending v c items ≤ length (rest_of v c items)
pending_most v c items = elim (is_attached (rpc_of v c items)) as (λ b. (if b then length (rest_of v c items) else 0) ≤ length (rest_of v c items)) [ true ↦ omega arith | false ↦ omega arith ]

-- no more is left of a connection that hasn't ended, and nothing of one that has
pending_less : (v : Version) (c : ChannelKey) (item : EndItem) (items : List EndItem) → (is_attached (rpc_of v c (item ∷ items)) ≡ true → is_attached (rpc_of v c items) ≡ true)
    → length (rest_of v c (item ∷ items)) ≤ length (rest_of v c items) → pending v c (item ∷ items) ≤ pending v c items
pending_less v c item items still less = if_less (is_attached (rpc_of v c items)) (is_attached (rpc_of v c (item ∷ items))) (length (rest_of v c items)) (length (rest_of v c (item ∷ items))) still less
  where
    if_less : (was is : Bool) (n k : ℕ) → (is ≡ true → was ≡ true) → k ≤ n → (if is then k else 0) ≤ (if was then n else 0)
    if_less true true n k h le = le
    if_less false true n k h le = cc (h refl)
    if_less was false n k h le = omega arith

-- items of the multiplexing end

pending_mux : (v : Version) (c : ChannelKey) (item : Item) (items : List EndItem) → is_read_on c (is_attached (rpc_of v c items)) item ≡ false → pending v c (Mux item ∷ items) ≤ pending v c items
pending_mux v c item items e =
    let same : rest_of v c (Mux item ∷ items) ≡ rest_of v c items = ap (λ b. drop (consumed c items) (if b then joined v c items ++ unread v c (item ∷ mux_of v items) else joined v c items)) e in
    pending_less v c (Mux item) items (λ h. (still_attached (end_by v c item (item ∷ mux_of v items)) (rpc_of v c items) h).1) (omega (arith, ap length same))

unread_content : (v : Version) (c : ChannelKey) (place : ℕ) (key : ChannelKey) (bytes : List ℕ) (m : List Item) → IsAllRead v c m → length (unread v c (Got place key (Content bytes) ∷ m)) ≤ length bytes
unread_content v c place key bytes m all =
    let now = Got place key (Content bytes) ∷ m in
    let size : length (taken v c now) ≤ length (taken v c m) + length bytes = elim (heeds v key c m) as (λ b. length (if b then taken v c m ++ bytes else taken v c m) ≤ length (taken v c m) + length bytes) [
      | true ↦ omega (arith, length-append (taken v c m) bytes)
      | false ↦ omega arith
    ] in
    let count : unread_count (is_dropped v c now) (length (taken v c now)) (handed v c now) ≤ length bytes = elim (is_dropped v c now) as (λ b. unread_count b (length (taken v c now)) (handed v c now) ≤ length bytes) [
      | true ↦ omega arith
      | false ↦ omega (arith, size, all)
    ] in
    omega (arith, length-unread v c now, count)

pending_content : (v : Version) (c : ChannelKey) (place : ℕ) (bytes : List ℕ) (items : List EndItem) → AreAllowed v items → pending v c (Mux (Got place c (Content bytes)) ∷ items) ≤ pending v c items + length bytes
pending_content v c place bytes items a = elim (cases_Bool (same_key c c && is_attached (rpc_of v c items))) [
  | inr e ↦ (let less = pending_mux v c (Got place c (Content bytes)) items e in omega (arith, less))
  | inl e ↦
      let attached = (and_parts (same_key c c) (is_attached (rpc_of v c items)) e).1 in
      let more = unread v c (Got place c (Content bytes) ∷ mux_of v items) in
      let now : rest_of v c (Mux (Got place c (Content bytes)) ∷ items) ≡ drop (consumed c items) (joined v c items ++ more) = ap (λ b. drop (consumed c items) (if b then joined v c items ++ more else joined v c items)) e in
      omega (
        arith,
        pending_most v c (Mux (Got place c (Content bytes)) ∷ items),
        pending_is v c items attached,
        ap length now,
        length-drop (consumed c items) (joined v c items ++ more),
        length-append (joined v c items) more,
        length-drop (consumed c items) (joined v c items),
        unread_content v c place c bytes (mux_of v items) (all_read v c items a attached),
      )
]

-- messages

pending_message : (v : Version) (c key : ChannelKey) (place size : ℕ) (message : Message) (items : List EndItem) → pending v c (GotMessage key place size message ∷ items) ≤ pending v c items
pending_message v c key place size message items =
    pending_less v c (GotMessage key place size message) items (got_attached (same_key key c) place message (rpc_of v c items))
    (elim (same_key key c) as (λ b. length (drop (if b then consumed c items + size else consumed c items) (joined v c items)) ≤ length (rest_of v c items)) [
      | true ↦ omega (arith, length-drop (consumed c items) (joined v c items), length-drop (consumed c items + size) (joined v c items))
      | false ↦ omega arith
    ])

message_less : (v : Version) (c : ChannelKey) (place size : ℕ) (message : Message) (items : List EndItem) → is_attached (rpc_of v c items) ≡ true → 0 < size → size ≤ length (rest_of v c items)
    → pending v c (GotMessage c place size message ∷ items) < pending v c items
message_less v c place size message items e some fits =
    let now : rest_of v c (GotMessage c place size message ∷ items) ≡ drop (consumed c items + size) (joined v c items) = ap (λ b. drop (if b then consumed c items + size else consumed c items) (joined v c items)) (same_key_refl c) in
    omega (
      arith,
      some,
      fits,
      pending_is v c items e,
      pending_most v c (GotMessage c place size message ∷ items),
      ap length now,
      length-drop (consumed c items) (joined v c items),
      length-drop (consumed c items + size) (joined v c items),
    )

pending_refused : (v : Version) (c key : ChannelKey) (place : ℕ) (reason : Reason) (items : List EndItem) → pending v c (RefusedMessage key place reason ∷ items) ≤ pending v c items
pending_refused v c key place reason items = pending_less v c (RefusedMessage key place reason) items (refused_attached (same_key key c) (cause.Refused (place_at place) reason) (rpc_of v c items)) (omega arith)

ended_over : (why : Cause) (x : Connection) → is_attached (end_for (Some why) x) ≡ false
ended_over why x = elim (cases_Bool (is_attached (end_for (Some why) x))) [
  | inl still ↦ (let none : Some why ≡ None = (still_attached (Some why) x still).0 in cc none)
  | inr over ↦ over
]

refused_less : (v : Version) (c : ChannelKey) (place : ℕ) (reason : Reason) (items : List EndItem) → is_attached (rpc_of v c items) ≡ true → 0 < length (rest_of v c items) → pending v c (RefusedMessage c place reason ∷ items) < pending v c items
refused_less v c place reason items e some =
    let why = cause.Refused (place_at place) reason in
    let x = rpc_of v c items in
    let none : pending v c (RefusedMessage c place reason ∷ items) ≡ 0 = ap (λ b. if is_attached (if b then end_for (Some why) x else x) then length (rest_of v c items) else 0) (same_key_refl c)
    ∙ ap (λ b. if b then length (rest_of v c items) else 0) (ended_over why x) in
    omega (arith, some, none, pending_is v c items e)

-- sums over channels

sum_less : (v : Version) (after items : List EndItem) (cs : List ChannelKey) → ((c : ChannelKey) → pending v c after ≤ pending v c items) → pending_on v after cs ≤ pending_on v items cs
sum_less v after items [] h = omega arith
sum_less v after items (c ∷ cs) h = omega (arith, h c, sum_less v after items cs h)

-- less is left on one of them
sum_falls : (v : Version) (after items : List EndItem) (c : ChannelKey) (cs : List ChannelKey) → ((c : ChannelKey) → pending v c after ≤ pending v c items) → list_any (same_key c) cs ≡ true
    → pending v c after < pending v c items → pending_on v after cs < pending_on v items cs
sum_falls v after items c [] h e less = cc
sum_falls v after items c (d ∷ cs) h e less = elim (cases_Bool (same_key c d)) [
  | inl same ↦ (let here : pending v d after < pending v d items = subst (λ k. pending v k after < pending v k items) (same_key_true c d same) less in omega (arith, here, sum_less v after items cs h))
  | inr differ ↦ omega (arith, h d, sum_falls v after items c cs h (ap (λ b. b || list_any (same_key c) cs) (sym differ) ∙ e) less)
]

pub some_pending : (v : Version) (items : List EndItem) (c : ChannelKey) (cs : List ChannelKey) → list_any (same_key c) cs ≡ true → 0 < pending v c items → 0 < pending_on v items cs
some_pending v items c [] e h = cc
some_pending v items c (d ∷ cs) e h = elim (cases_Bool (same_key c d)) [
  | inl same ↦ (let here : 0 < pending v d items = subst (λ k. 0 < pending v k items) (same_key_true c d same) h in omega (arith, here))
  | inr differ ↦ omega (arith, some_pending v items c cs (ap (λ b. b || list_any (same_key c) cs) (sym differ) ∙ e) h)
]

-- more is left on one of them alone

sum_elsewhere : (v : Version) (after items : List EndItem) (c : ChannelKey) (cs : List ChannelKey) → list_any (same_key c) cs ≡ false → ((d : ChannelKey) → same_key c d ≡ false → pending v d after ≤ pending v d items)
    → pending_on v after cs ≤ pending_on v items cs
sum_elsewhere v after items c [] none h = omega arith
sum_elsewhere v after items c (d ∷ cs) none h = elim (cases_Bool (same_key c d)) [
  | inl same ↦ (let found : list_any (same_key c) (d ∷ cs) ≡ true = ap (λ b. b || list_any (same_key c) cs) same in cc (found, none))
  | inr differ ↦ omega (arith, h d differ, sum_elsewhere v after items c cs (ap (λ b. b || list_any (same_key c) cs) (sym differ) ∙ none) h)
]

sum_grows : (v : Version) (after items : List EndItem) (c : ChannelKey) (n : ℕ) (cs : List ChannelKey) → AreApart cs → pending v c after ≤ pending v c items + n
    → ((d : ChannelKey) → same_key c d ≡ false → pending v d after ≤ pending v d items) → pending_on v after cs ≤ pending_on v items cs + n
sum_grows v after items c n [] apart here h = omega arith
sum_grows v after items c n (d ∷ cs) apart here h = elim (cases_Bool (same_key c d)) [
  | inl same ↦
      let is = same_key_true c d same in
      let more : pending v d after ≤ pending v d items + n = subst (λ k. pending v k after ≤ pending v k items + n) is here in
      omega (arith, more, sum_elsewhere v after items d cs apart.0 (λ e differ. h e (ap (λ k. same_key k e) is ∙ differ)))
  | inr differ ↦ omega (arith, h d differ, sum_grows v after items c n cs apart.1 here h)
]

-- what an item leaves on all channels with connections

pub left_message : (v : Version) (c : ChannelKey) (place size : ℕ) (message : Message) (items : List EndItem) → is_attached (rpc_of v c items) ≡ true → list_any (same_key c) (attached_keys items) ≡ true → 0 < size → size ≤ length (rest_of v c items)
    → pending_on v (GotMessage c place size message ∷ items) (attached_keys items) < pending_on v items (attached_keys items)
left_message v c place size message items e has some fits =
    sum_falls v (GotMessage c place size message ∷ items) items c (attached_keys items) (λ d. pending_message v d c place size message items) has (message_less v c place size message items e some fits)

pub left_refused : (v : Version) (c : ChannelKey) (place : ℕ) (reason : Reason) (items : List EndItem) → is_attached (rpc_of v c items) ≡ true → list_any (same_key c) (attached_keys items) ≡ true → 0 < length (rest_of v c items)
    → pending_on v (RefusedMessage c place reason ∷ items) (attached_keys items) < pending_on v items (attached_keys items)
left_refused v c place reason items e has some =
    sum_falls v (RefusedMessage c place reason ∷ items) items c (attached_keys items) (λ d. pending_refused v d c place reason items) has (refused_less v c place reason items e some)

quietly : (v : Version) (item : Item) (items : List EndItem) → ((c : ChannelKey) → is_read_on c (is_attached (rpc_of v c items)) item ≡ false) → pending_on v (Mux item ∷ items) (attached_keys items) ≤ pending_on v items (attached_keys items)
quietly v item items h = sum_less v (Mux item ∷ items) items (attached_keys items) (λ c. pending_mux v c item items (h c))

pub left_mux : (v : Version) (item : Item) (items : List EndItem) → AreAllowed v items → pending_on v (Mux item ∷ items) (attached_keys items) ≤ pending_on v items (attached_keys items) + content_size item
left_mux v (Got place key (Content bytes)) items a =
    sum_grows v (Mux (Got place key (Content bytes)) ∷ items) items key (length bytes) (attached_keys items) (attached_apart v items a) (pending_content v key place bytes items a)
    (λ d differ. pending_mux v d (Got place key (Content bytes)) items (ap (λ b. b && is_attached (rpc_of v d items)) differ))
left_mux v item items a = omega (arith, quietly v item items (λ c. refl))
