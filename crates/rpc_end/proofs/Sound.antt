-- Whatever becomes of the sequences of an end, each page that is to come can be written.
use Rattle.std.proofs.Common.{◌≡◌, List, sym, subst}
use Rattle.wire_base.specs.declared.text.Id.{Id}
use Rattle.message_body.specs.Written.{encoder}
use Rattle.message_framing.specs.Unread.{Unread}
use Rattle.enumerables.specs.declared.sequence.Sequence.{Sequence}
use Rattle.enumerables.specs.Producer.{all_ended, given_up, turned}
use Rattle.sequence_limits.specs.Fitting.{PagesFit}
use Rattle.sequence_limits.proofs.Kept.{ended_fit, given_up_fit, turned_fit}
use Rattle.rpc_end.specs.declared.terms.Terms.{Terms}
use Rattle.rpc_end.specs.Sound.{IsSound}

pub with_pages : (terms : Terms) (old new now : List Sequence) (reader : Unread) → new ≡ now → PagesFit (encoder terms.encoding) now → IsSound terms old reader → IsSound terms new reader
with_pages terms old new now reader e fit s = record {
  framing = s.framing;
  fed_all = s.fed_all;
  fed_within = s.fed_within;
  pages = subst (λ (sequences : List Sequence). PagesFit (encoder terms.encoding) sequences) (sym e) fit;
}

pub turned_sound : (terms : Terms) (token : Id) (old new : List Sequence) (reader : Unread) → new ≡ turned token old → IsSound terms old reader → IsSound terms new reader
turned_sound terms token old new reader e s = with_pages terms old new (turned token old) reader e (turned_fit (encoder terms.encoding) token old s.pages) s

pub given_up_sound : (terms : Terms) (token : Id) (old new : List Sequence) (reader : Unread) → new ≡ given_up token old → IsSound terms old reader → IsSound terms new reader
given_up_sound terms token old new reader e s = with_pages terms old new (given_up token old) reader e (given_up_fit (encoder terms.encoding) token old s.pages) s

pub ended_sound : (terms : Terms) (old new : List Sequence) (reader : Unread) → new ≡ all_ended old → IsSound terms old reader → IsSound terms new reader
ended_sound terms old new reader e s = with_pages terms old new (all_ended old) reader e (ended_fit (encoder terms.encoding) old s.pages) s
