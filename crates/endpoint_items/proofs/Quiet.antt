-- What leaves the bytes that are written on a channel as they are.
use Rattle.std.specs.Prelude.{if◌then◌else◌, Bool, true, false}
use Rattle.std.proofs.Common.{◌≡◌, List, [], ◌∷◌, ◌++◌, refl, ◌∙◌, ap}
use Rattle.wire_base.specs.declared.frame.Version.{Version}
use Rattle.mux_items.specs.declared.channel.ChannelKey.{ChannelKey}
use Rattle.mux_items.specs.Bodies.{Content, ContentWritingCompleted, same_key}
use Rattle.mux_items.specs.Items.{Item, DidWrite, DidComplete, Got}
use Rattle.mux_items.specs.Lists.{written, has_completed}
use Rattle.mux_items.proofs.Taking.{completed_more}
use Rattle.rpc_items.specs.declared.messages.Message.{Message}
use Rattle.rpc_end.specs.declared.terms.Terms.{Terms}
use Rattle.rpc_end.specs.Texts.{message_texts}
use Rattle.endpoint_items.specs.Rows.{then_read, then_complete, then_write, then_follow}

-- nothing is written, and what was completed stays so
pub record IsQuiet (c : ChannelKey) (m now : List Item) : Type 0 where
  pub same : written c now ≡ written c m
  pub completed : has_completed c m ≡ true → has_completed c now ≡ true

quiet_same : (c : ChannelKey) (m : List Item) → IsQuiet c m m
quiet_same c m = record { same = refl; completed = λ e. e }

pub quiet_more : (c : ChannelKey) (m now later : List Item) → IsQuiet c m now → IsQuiet c now later → IsQuiet c m later
quiet_more c m now later p q = record { same = q.same ∙ p.same; completed = λ e. q.completed (p.completed e) }

pub quiet_item : (c : ChannelKey) (item : Item) (m : List Item) → written c (item ∷ m) ≡ written c m → IsQuiet c m (item ∷ m)
quiet_item c item m e = record { same = e; completed = completed_more c item m }

pub quiet_read : (v : Version) (c key : ChannelKey) (m : List Item) → IsQuiet c m (then_read v key m)
quiet_read v c key m = record { same = refl; completed = λ e. e }

pub quiet_complete : (c key : ChannelKey) (m : List Item) → IsQuiet c m (then_complete key m)
quiet_complete c key m = elim (has_completed key m) as (λ b. IsQuiet c m (if b then m else DidComplete key ∷ m)) [ true ↦ quiet_same c m | false ↦ quiet_item c (DidComplete key) m refl ]

pub quiet_write : (c key : ChannelKey) (terms : Terms) (messages : List Message) (m : List Item) → same_key key c ≡ false → IsQuiet c m (then_write key terms messages m)
quiet_write c key terms [] m e = quiet_same c m
quiet_write c key terms (message ∷ messages) m e =
    let text = message_texts terms (message ∷ messages) in
    elim (has_completed key m) as (λ b. IsQuiet c m (if b then m else DidWrite key text ∷ m)) [
      | true ↦ quiet_same c m
      | false ↦ quiet_item c (DidWrite key text) m (ap (λ b. if b then written c m ++ text else written c m) e)
    ]

pub quiet_follow : (v : Version) (attached : ChannelKey → Bool) (c : ChannelKey) (item : Item) (m : List Item) → IsQuiet c m (then_follow v attached item m)
quiet_follow v attached c (Got place key (Content bytes)) m = elim (attached key) as (λ b. IsQuiet c m (if b then then_read v key m else m)) [ true ↦ quiet_read v c key m | false ↦ quiet_same c m ]
quiet_follow v attached c (Got place key ContentWritingCompleted) m = elim (attached key) as (λ b. IsQuiet c m (if b then then_complete key m else m)) [ true ↦ quiet_complete c key m | false ↦ quiet_same c m ]
quiet_follow v attached c item m = quiet_same c m
