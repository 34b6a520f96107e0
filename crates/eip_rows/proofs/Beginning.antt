-- An exchange begins as its birth says.
use Rattle.std.proofs.Common.{◌≡◌, List, [], Some, Result, Ok, Err, refl, sym, ◌∙◌, subst}
use Rattle.std.specs.Prelude.{Option, None}
use Rattle.std.specs.Result.{OnOk}
use Rattle.eip_text.specs.declared.memory.NoMemory.{NoMemory}
use Rattle.eip_exchange.specs.declared.birth.Birth.{Birth}
use Rattle.eip_exchange.specs.declared.birth.Origin.{Origin}
use Rattle.eip_exchange.specs.declared.birth.Work.{Work}
use Rattle.eip_exchange.specs.declared.message.Message.{Message}
use Rattle.eip_exchange.specs.declared.end.End.{End}
use Rattle.eip_route.specs.declared.route.RouteSet.{RouteSet}
use Rattle.eip_frames.specs.Fate.{Ends}
use Rattle.eip_frames.specs.declared.answer.Answer.{Answer as Reply}
use Rattle.eip_frames.specs.declared.request.Request.{Request}
use Rattle.eip_history.specs.Place.{end_of}
use Rattle.eip_meaning.specs.declared.context.Context.{Context}
use Rattle.eip_meaning.specs.Contexts.{context_of}
use Rattle.eip_meaning.specs.Meaning.{mean}
use Rattle.eip_progress.specs.declared.cursor.Cursor.{Cursor}
use Rattle.eip_cursor.specs.Follows.{begins, Begun}
use Rattle.eip_tables.specs.declared.live.Live.{Live}
use Rattle.eip_rows.specs.First.{MayBegin, BegunOn}
use Rattle.eip_rows.proofs.There.{lives_on}

-- these are the parts of a birth with which its exchange begins
pub record AreOf (b : Birth) (c : Context) (f : Origin) (w : Work) (m : Message) : Type 0 where
  pub context : context_of b ≡ c
  pub origin : b.origin ≡ f
  pub work : b.work ≡ w
  pub message : b.message ≡ m

begins_as : (set : RouteSet) (b : Birth) (c : Context) (f : Origin) (w : Work) (m : Message) (A : List Reply) → AreOf b c f w m → begins set c f w m A ≡ mean set b A
unfolding mean
begins_as set b c f w m A h = rw (← h.context, ← h.origin, ← h.work, ← h.message) refl

module _ (set : RouteSet) (o : Option Birth) (b : Birth) (c : Context) (f : Origin) (w : Work) (m : Message) where
  pub may_begin : o ≡ Some b → AreOf b c f w m → MayBegin set o → (e : End) (x : Message) → begins set c f w m [] ≡ Ends e x → ⊥
  may_begin made parts may e x ends =
      let same : may.birth ≡ b = cc in
      lives_on (mean set b []) (subst (λ (y : Birth). end_of (mean set y []) ≡ None) same may.lives) e x (sym (begins_as set b c f w m [] parts) ∙ ends)

  pub begun_on : (old : Live) (place : Option Cursor) (asked : Option Request) (r : Result Unit NoMemory) → o ≡ Some b → AreOf b c f w m →
      OnOk r (Begun set (begins set c f w m) place asked) → OnOk r (BegunOn set o old (record old { cursor = place; request = asked }))
  begun_on old place asked (Ok x) made parts h = record {
    birth = b;
    made = made;
    cursor = h.cursor;
    request = h.request;
    live = rw (h.placed, h.asks) refl;
    stepped = record { later = h.later; rests = λ A. h.means A ∙ begins_as set b c f w m A parts; at = _; asks = h.fate };
  }
  begun_on old place asked (Err n) made parts h = tt
