-- Texts that are written on a channel, one behind the other.
use Rattle.std.specs.Prelude.{if◌then◌else◌, Bool, true, false}
use Rattle.std.proofs.Common.{◌≡◌, ℕ, List, [], ◌∷◌, ◌++◌, refl, sym, ◌∙◌, ap, subst, inl, inr, append_assoc, append-nil}
use Rattle.std.proofs.lemmas.Bool.{cases_Bool}
use Rattle.mux_items.specs.declared.channel.ChannelKey.{ChannelKey}
use Rattle.mux_items.specs.Items.{Item, DidWrite}
use Rattle.mux_items.specs.Lists.{written, has_completed}
use Rattle.mux_items.proofs.Keys.{same_key_refl}
use Rattle.rpc_items.specs.declared.messages.Message.{Message}
use Rattle.rpc_end.specs.declared.terms.Terms.{Terms}
use Rattle.rpc_end.specs.Texts.{message_text, message_texts}
use Rattle.endpoint_items.specs.Rows.{then_write}
use Rattle.endpoint_items.specs.Spoken.{IsSpoken}
use Rattle.endpoint_items.proofs.Quiet.{IsQuiet}

pub texts-append : (terms : Terms) (xs ys : List Message) → message_texts terms (xs ++ ys) ≡ message_texts terms xs ++ message_texts terms ys
texts-append terms [] ys = refl
texts-append terms (x ∷ xs) ys = ap (λ bytes. message_text terms x ++ bytes) (texts-append terms xs ys) ∙ sym (append_assoc (message_text terms x) (message_texts terms xs) (message_texts terms ys))

pub spoken_quiet : (terms : Terms) (c : ChannelKey) (first : List ℕ) (m now : List Item) (ms : List Message) → IsQuiet c m now → IsSpoken terms c first m ms → IsSpoken terms c first now ms
spoken_quiet terms c first m now ms q s = record {
  dropped = s.dropped;
  is = ap (λ bytes. bytes ++ s.dropped) q.same ∙ s.is;
  all = λ e. s.all (elim (cases_Bool (has_completed c m)) [ inl h ↦ cc (q.completed h, e) | inr h ↦ h ]);
}

-- bytes behind those that were said, and dropped ones behind them
grown : (terms : Terms) (first bytes : List ℕ) (ms more : List Message) → bytes ≡ first ++ message_texts terms ms → bytes ++ message_texts terms more ≡ first ++ message_texts terms (ms ++ more)
grown terms first bytes ms more e =
    ap (λ is. is ++ message_texts terms more) e ∙ (append_assoc first (message_texts terms ms) (message_texts terms more) ∙ ap (λ is. first ++ is) (sym (texts-append terms ms more)))

pub spoken_more : (terms : Terms) (c : ChannelKey) (first : List ℕ) (m : List Item) (ms more : List Message) → IsSpoken terms c first m ms → IsSpoken terms c first (then_write c terms more m) (ms ++ more)
spoken_more terms c first m ms [] s = subst (IsSpoken terms c first m) (sym (append-nil ms)) s
spoken_more terms c first m ms (message ∷ messages) s = by (has_completed c m) refl
  where
    more : List Message
    more = message ∷ messages

    text : List ℕ
    text = message_texts terms more

    by : (b : Bool) → has_completed c m ≡ b → IsSpoken terms c first (if b then m else DidWrite c text ∷ m) (ms ++ more)
    by true e = record {
      dropped = s.dropped ++ text;
      is = sym (append_assoc (written c m) s.dropped text) ∙ grown terms first (written c m ++ s.dropped) ms more s.is;
      all = λ h. cc (e, h);
    }
    by false e =
        let now : written c (DidWrite c text ∷ m) ≡ written c m ++ text = ap (λ b. if b then written c m ++ text else written c m) (same_key_refl c) in
        let before : written c m ≡ first ++ message_texts terms ms = sym (append-nil (written c m)) ∙ (ap (λ bytes. written c m ++ bytes) (sym (s.all e)) ∙ s.is) in
        record {
          dropped = [];
          is = append-nil (written c (DidWrite c text ∷ m)) ∙ (now ∙ grown terms first (written c m) ms more before);
          all = λ h. refl;
        }
