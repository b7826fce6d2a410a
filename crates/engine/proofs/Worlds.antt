-- A session in a world, while someone watches.
use Rattle.std.proofs.Common.{◌≡◌, ◌∙◌, ℕ, ◌-◌, ◌<◌, List, [], ◌∷◌, ◌++◌, Option, Some, None, Result, Ok, Err, IfOk, IfErr, refl, sym, ap, subst, append_assoc, arith}
use Rattle.std.proofs.lemmas.List.{append-nil, length-append}
use Rattle.acts.specs.Deed.{Deed, Reply, deed_of, reply_of}
use Rattle.acts.specs.History.{History, Past}
use Rattle.acts.specs.declared.act.Act.{Act}
use Rattle.acts.specs.declared.answer.Answer.{Answer}
use Rattle.machine.specs.Phases.{IsTold, deed_in, paired}
use Rattle.engine.specs.Session.{IsAt, AsksFirst, EndsSo, Tells, end_in}
use Rattle.engine.specs.Step.{AsksFor}
use Rattle.engine.specs.Watching.{BeganTold, RanTold}
use Rattle.machine.specs.View.{ending_of}
use Rattle.machine.specs.declared.end.End.{End}
use Rattle.machine.specs.declared.phase.Phase.{Phase}
use Rattle.machine.specs.declared.phase.Phase.TheVariants as phase
use Rattle.engine.specs.declared.session.Session.{Session}
use Rattle.engine.proofs.Sessions.{left_bounded, session_tells}
use Rattle.plan.proofs.Kept.{throughout_first}
use Rattle.runs.specs.Bounds.{BeginsRun, most_acts}
use Rattle.runs.specs.Run.{Run, Ran, Began}
use Rattle.runs.proofs.AllRuns.{any_answer_leads_on, each_script_runs, waits_hold}
use Rattle.state.specs.Rows.{Holds}

pub past_join : {W : Type 0} (Step : W → Deed → Reply → W → Type 0) (a b c : W) (h k : History) →
    Past Step a b h → Past Step b c k → Past Step a c (h ++ k)
past_join Step a b c [] k p q = subst (λ w. Past Step w c k) (sym p) q
past_join Step a b c (pair ∷ h) k p q = (p.0, p.1, past_join Step p.0 b c h k p.2 q)

-- a history after which some run continues is a beginning of a run in the world
pub began : {W : Type 0} (Step : W → Deed → Reply → W → Type 0) (first now : W) (text : List ℕ)
    (args : List (List ℕ)) (limit : ℕ) (h : History) → Past Step first now h →
    BeginsRun text args limit h → Began Step first now text args limit
began Step first now text args limit h past goes = record {
  history = h;
  past = past;
  rest = goes.rest;
  ending = goes.ending;
  run = goes.run;
  holds = throughout_first Holds h goes.rest
      (waits_hold text args limit (h ++ goes.rest) goes.ending goes.run);
}

-- some acts and answers led the world from first to now, and the session is after them
pub record Going {A W : Type 0} (Step : W → Deed → Reply → W → Type 0) (first now : W)
    (text : List ℕ) (args : List (List ℕ)) (limit : ℕ) (session : Session A) : Type 0 where
  pub history : History
  pub past : Past Step first now history
  pub at : IsAt session text args limit history

module _ {A : Type 0} where
  abbrev pub no_answer : Option (Answer A)
  no_answer = None

  pub none_asked : (p : Phase A) → paired (deed_in p) no_answer ≡ []
  none_asked (phase.Has o) = refl
  none_asked (phase.Asks act waits) = refl
  none_asked (phase.Closes act c) = refl
  none_asked (phase.Over end) = refl
  none_asked (phase.Refused refusal) = refl

  -- the act that a step lends is the one that is asked
  pub asked : (p : Phase A) (act : Act A) (answer : Answer A) → AsksFor p act →
      paired (deed_in p) (Some answer) ≡ (deed_of act, reply_of answer) ∷ []
  asked (phase.Has o) act answer is = absurd is
  asked (phase.Asks own waits) act answer is =
      ap (λ (a : Act A). let h : History = (deed_of a, reply_of answer) ∷ [] in h) is
  asked (phase.Closes own c) act answer is =
      ap (λ (a : Act A). let h : History = (deed_of a, reply_of answer) ∷ [] in h) is
  asked (phase.Over end) act answer is = absurd is
  asked (phase.Refused refusal) act answer is = absurd is

  -- each remaining run begins with the act that is asked
  asks : (p : Phase A) (act : Act A) (text : List ℕ) (args : List (List ℕ)) (limit : ℕ)
      (past : History) → AsksFor p act → Tells p text args limit past →
      AsksFirst (deed_of act) text args limit past
  asks (phase.Has o) act text args limit past is told = absurd is
  asks (phase.Asks own waits) act text args limit past is told =
      subst (λ a. AsksFirst (deed_of a) text args limit past) is told
  asks (phase.Closes own c) act text args limit past is told =
      subst (λ a. AsksFirst (deed_of a) text args limit past) is told
  asks (phase.Over end) act text args limit past is told = absurd is
  asks (phase.Refused refusal) act text args limit past is told = absurd is

  over : (p : Phase A) (end : End A) (text : List ℕ) (args : List (List ℕ)) (limit : ℕ)
      (past : History) → end_in p ≡ Some end → Tells p text args limit past →
      EndsSo (ending_of end) text args limit past
  over (phase.Has o) end text args limit past is told = absurd told
  over (phase.Asks own waits) end text args limit past is told = absurd (cc)
  over (phase.Closes own c) end text args limit past is told = absurd (cc)
  over (phase.Over own) end text args limit past is told =
      let same : own ≡ end = cc in
      subst (λ e. EndsSo (ending_of e) text args limit past) same told
  over (phase.Refused refusal) end text args limit past is told = absurd told

module _ {A W : Type 0} {Step : W → Deed → Reply → W → Type 0} {a b : W} {text : List ℕ}
    {args : List (List ℕ)} {limit : ℕ} where
  -- what the session says of the remaining runs
  telling : (session : Session A) → IsTold session.phase →
      (g : Going Step a b text args limit session) →
      Tells session.phase text args limit g.history
  telling session told g = session_tells session text args limit g.history told g.at

  -- a call without an answer
  pub goes : (old new : Session A) (g : Going Step a b text args limit old) →
      IsAt new text args limit (g.history ++ paired (deed_in old.phase) (no_answer {A = A})) →
      Going Step a b text args limit new
  goes old new g at = record {
    history = g.history;
    past = g.past;
    at = subst (λ h. IsAt new text args limit h)
        (ap (λ h. g.history ++ h) (none_asked old.phase) ∙ append-nil g.history) at;
  }

  -- a call with an answer
  pub goes_on : {c : W} (old new : Session A) (act : Act A) (answer : Answer A)
      (g : Going Step a b text args limit old) → AsksFor old.phase act →
      Step b (deed_of act) (reply_of answer) c →
      IsAt new text args limit (g.history ++ paired (deed_in old.phase) (Some answer)) →
      Going Step a c text args limit new
  goes_on {c = c} old new act answer g is step at =
      let one : History = (deed_of act, reply_of answer) ∷ [] in
      record {
        history = g.history ++ one;
        past = past_join Step a b c g.history one g.past (c, step, refl);
        at = subst (λ h. IsAt new text args limit h)
            (ap (λ h. g.history ++ h) (asked old.phase act answer is)) at;
      }

  -- each answer leaves fewer to come
  pub fewer_left : (old new : Session A) (act : Act A) (answer : Answer A)
      (g : Going Step a b text args limit old) → AsksFor old.phase act →
      IsAt new text args limit (g.history ++ paired (deed_in old.phase) (Some answer)) →
      most_acts limit - new.answers < most_acts limit - old.answers
  fewer_left old new act answer g is at =
      let one : History = (deed_of act, reply_of answer) ∷ [] in
      let now : IsAt new text args limit (g.history ++ one) =
      subst (λ h. IsAt new text args limit h)
      (ap (λ h. g.history ++ h) (asked old.phase act answer is)) at in
      let bound = left_bounded text args limit (g.history ++ one) now.plan now.exact in
      let count = now.answers in
      let before = g.at.answers in
      let sum = length-append g.history one in
      omega (arith, bound, count, before, sum)

  pub is_over : (session : Session A) (end : End A) (g : Going Step a b text args limit session) →
      IsTold session.phase → end_in session.phase ≡ Some end →
      Ran Step a b text args limit (ending_of end)
  is_over session end g told is =
      let ends = over session.phase end text args limit g.history is (telling session told g) in
      let run : Run text args limit g.history (ending_of end) =
      subst (λ h. Run text args limit h (ending_of end)) (append-nil g.history)
      ((ends [] (ending_of end)).1 (refl, refl)) in
      record {
        history = g.history;
        past = g.past;
        run = run;
        holds = waits_hold text args limit g.history (ending_of end) run;
      }

  -- memory was refused to a call with an answer
  pub refused_on : {c : W} (session : Session A) (act : Act A) (answer : Answer A) →
      IsTold session.phase → Going Step a b text args limit session →
      AsksFor session.phase act → Step b (deed_of act) (reply_of answer) c →
      Began Step a c text args limit
  refused_on {c = c} session act answer told g is step =
      let deed = deed_of act in
      let first = asks session.phase act text args limit g.history is (telling session told g) in
      let on = first.goes in
      let begins = first.first on.rest on.ending on.run in
      let other : BeginsRun text args limit (g.history ++ (deed, begins.reply) ∷ []) = record {
        rest = begins.rest;
        ending = on.ending;
        run = subst (λ h. Run text args limit h on.ending)
            (sym (append_assoc g.history ((deed, begins.reply) ∷ []) begins.rest)) begins.follows;
      } in
      let one : History = (deed, reply_of answer) ∷ [] in
      began Step a c text args limit (g.history ++ one)
      (past_join Step a b c g.history one g.past (c, step, refl))
      (any_answer_leads_on text args limit g.history deed begins.reply (reply_of answer) other)

-- the first call
pub sets_out : {A W : Type 0} {Step : W → Deed → Reply → W → Type 0} {w : W} {text : List ℕ}
    {args : List (List ℕ)} {limit : ℕ} (session : Session A) → IsAt session text args limit [] →
    Going Step w w text args limit session
sets_out session at = record { history = []; past = refl; at = at }

pub never_began : {W : Type 0} {Step : W → Deed → Reply → W → Type 0} {w : W} (text : List ℕ)
    (args : List (List ℕ)) (limit : ℕ) → Began Step w w text args limit
never_began {Step = Step} {w = w} text args limit =
    began Step w w text args limit [] refl (each_script_runs text args limit)

-- the session is after some acts and answers, which led the world from first to now, and who
-- watches was told these
pub record Watching {A W T : Type 0} (Step : W → Deed → Reply → W → Type 0)
    (told : T → History → T → Type 0) (first now : W × T) (text : List ℕ) (args : List (List ℕ))
    (limit : ℕ) (session : Session A) : Type 0 where
  pub going : Going Step first.0 now.0 text args limit session
  pub heard : told first.1 going.history now.1

module _ {A W T : Type 0} {Step : W → Deed → Reply → W → Type 0}
    {told : T → History → T → Type 0}
    (joins : (x y z : T) (h k : History) → told x h y → told y k z → told x (h ++ k) z)
    {a : W} {x y : T} {text : List ℕ} {args : List (List ℕ)} {limit : ℕ} where
  -- the first call, before which a run was told to begin
  pub begins_told : {z : T} (old new : Session A) → IsAt old text args limit [] →
      IsAt new text args limit (paired (deed_in old.phase) (no_answer {A = A})) →
      told x [] y → told y [] z → Watching Step told (a, x) (a, z) text args limit new
  unfolding goes sets_out
  begins_told {z = z} old new start at first next = record {
    going = goes old new (sets_out {Step = Step} {w = a} old start) at;
    heard = joins x y z [] [] first next;
  }

  module _ {b c : W} {z : T} (old : Session A) (act : Act A) (answer : Answer A)
      (w : Watching Step told (a, x) (b, y) text args limit old) (is : AsksFor old.phase act)
      (step : Step b (deed_of act) (reply_of answer) c)
      (next : told y ((deed_of act, reply_of answer) ∷ []) z) where
    abbrev heard_on : told x (w.going.history ++ (deed_of act, reply_of answer) ∷ []) z
    heard_on =
        joins x y z w.going.history ((deed_of act, reply_of answer) ∷ []) w.heard next

    -- a call with an answer
    pub goes_on_told : (new : Session A) →
        IsAt new text args limit (w.going.history ++ paired (deed_in old.phase) (Some answer)) →
        Watching Step told (a, x) (c, z) text args limit new
    unfolding goes_on
    goes_on_told new at = record {
      going = goes_on old new act answer w.going is step at;
      heard = heard_on;
    }

    -- memory was refused to a call with an answer
    pub refused_on_told : IsTold old.phase → BeganTold Step told (a, x) (c, z) text args limit
    unfolding refused_on began
    refused_on_told is_told = (refused_on old act answer is_told w.going is step, heard_on)

  pub is_over_told : {b : W} (session : Session A) (end : End A)
      (w : Watching Step told (a, x) (b, y) text args limit session) →
      IsTold session.phase → end_in session.phase ≡ Some end →
      RanTold Step told (a, x) (b, y) text args limit (ending_of end)
  unfolding is_over
  is_over_told session end w is_told is = (is_over session end w.going is_told is, w.heard)

-- nothing was done and no act was told
pub never_told : {W T : Type 0} {Step : W → Deed → Reply → W → Type 0}
    (told : T → History → T → Type 0) {w : W} {x y : T} (text : List ℕ) (args : List (List ℕ))
    (limit : ℕ) → told x [] y → BeganTold Step told (w, x) (w, y) text args limit
unfolding never_began began
never_told told text args limit silent = (never_began text args limit, silent)

-- a run that someone watches is a run
pub ran_of : {X E : Type 0} (r : Result X E) {P : X → Type 0} (Q : (x : X) → P x → Type 0) →
    IfOk r (λ x. (p : P x) × Q x p) → IfOk r P
ran_of (Ok x) Q holds = holds.0
ran_of (Err e) Q holds = holds

pub began_of : {X E : Type 0} (r : Result X E) {P : E → Type 0} (Q : (e : E) → P e → Type 0) →
    IfErr r (λ e. (p : P e) × Q e p) → IfErr r P
began_of (Ok x) Q holds = holds
began_of (Err e) Q holds = holds.0
