-- Frames, the code below them, and the parts below that.
use Rattle.std.proofs.Common.{◌≡◌, ◌∙◌, ℕ, zero, suc, ◌+◌, ◌-◌, ◌*◌, ◌≤◌, List, [], ◌∷◌, ◌++◌, Option, Some, None, option_map, Result, Vec, length, refl, reverse, slice_get, sym, ap, subst, arith}
use Rattle.std.proofs.lemmas.List.{reverse-append}
use Rattle.tclparse.specs.ScriptTree.{seen}
use Rattle.code.specs.declared.instruction.Instruction.{Instruction}
use Rattle.machine.specs.Frames.{Onward, left_of, onward_of, stack}
use Rattle.machine.specs.Inner.{Puts}
use Rattle.machine.specs.Phases.{Begins, Leads, course_of_next}
use Rattle.machine.specs.Below.{Beneath, ComesFrom, ComesOver, Falls, FallsTo, GoesOn, Hands, IsBack, IsBelow, IsLess, IsOpen, IsWhole, Opens, StandsOver, depth, height, parts_of, places_in, takes_of, waits_in}
use Rattle.machine.specs.declared.frame.Frame.{Frame}
use Rattle.machine.specs.declared.phase.Phase.{Phase}
use Rattle.machine.specs.declared.running.Handed.{Handed}
use Rattle.machine.specs.declared.running.Handed.TheVariants as handed
use Rattle.machine.specs.declared.running.Part.{Part}
use Rattle.machine.specs.declared.running.Running.{Running}
use Rattle.machine.specs.declared.starting.Next.{Next}
use Rattle.machine.specs.declared.waits.Waits.{Waits}
use Rattle.machine.proofs.Machines.{leads_from, stands_from}
use Rattle.plan.specs.Plan.{and_then, onward}
use Rattle.runs.specs.Closing.{closing}
use Rattle.runs.specs.Ending.{Over}
use Rattle.runs.specs.Run.{most_levels}
use Rattle.runs.specs.Scripts.{script as meant}
use Rattle.state.specs.Budget.{again_of}
use Rattle.state.specs.Prelude.{Course, Dialogue, FitsState, Outcome, ScriptText, Status, on_value, outcome_of}
use Rattle.state.specs.declared.leaf.Leaf.{Leaf}
use Rattle.state.specs.declared.leaf.Leaf.TheVariants as leaf
use Rattle.state.specs.declared.outcome.Leave.{Leave}
use Rattle.state.specs.declared.state.State.{State}
use Rattle.steps.proofs.Leads.Silent.{same_goes, then_goes}
use Rattle.steps.specs.Goes.{Goes, here, calls, reads}
use Rattle.steps.specs.Run.{Awaits, HasStopped}
use Rattle.steps.specs.declared.progress.Progress.{Progress}
use Rattle.steps.specs.declared.progress.Progress.TheVariants as went
use Rattle.steps.specs.declared.run.Run.{Run}
use Rattle.steps.specs.Follows as follows
use Rattle.steps.specs.View.{spot_of}
use Rattle.tclparse.specs.Grammar.{IsScript}
use Rattle.tclparse.specs.Seen.{fault_of}
use Rattle.tclparse.specs.View.{commands_of}
use Rattle.tclparse.specs.declared.script.Script.{Script}

module _ {A : Type 0} where
  -- what goes on after silent steps
  pub hands_from : (last : Onward) (h : Handed A) (fs : List (Frame A)) (state : State A)
      {p q : Dialogue Over} → Goes p q → Hands last h fs state q → Hands last h fs state p
  hands_from last (handed.Over outcome) fs state goes leads =
      let none : List (Frame A) = [] in leads_from closing none state goes leads
  hands_from last (handed.Has outcome) fs state goes leads = leads_from last fs state goes leads
  hands_from last (handed.Begins n) fs state goes begins = record {
    status = begins.status;
    fits = begins.fits;
    goes = then_goes goes begins.goes;
  }

  pub goes_on_from : (h : Handed A) (running : Running A) (state : State A)
      {p q : Dialogue Over} → Goes p q → GoesOn h running state q → GoesOn h running state p
  goes_on_from h running state goes on = record {
    last = on.last;
    below = on.below;
    hands = hands_from on.last h (stack running.frames) state goes on.hands;
  }

  -- something begins by words of the code, which waits for it
  pub begins_in : (last : Onward) (n : Next A) (run : Run A) (state : State A) (p : Dialogue Over)
      (s : Status) (course : Course) → FitsState state s → course ≡ course_of_next n s →
      follows.Waits run.code.value.items last course (spot_of run.spot) p →
      (let none : List (Frame A) = [] in
      Opens last run (λ onward. Begins onward (course_of_next n) none state p))
  begins_in last n run state p s course fits is waits = record {
    onward = waits.next;
    awaits = λ t outcome. waits.resumes t outcome;
    on = record {
      status = s;
      fits = fits;
      goes = subst (λ c. Goes p (and_then c (onward waits.next))) is waits.goes;
    };
  }

  -- what a text is read as stands above the code, which waits for it
  pub puts_in : (last : Onward) (o : Result (List ℕ) (Leave A)) (below frames : List (Frame A))
      (run : Run A) (state : State A) (p : Dialogue Over) (s : Status)
      (course : Status → Course) → FitsState state s → below ≡ [] →
      Puts o below frames course →
      follows.Waits run.code.value.items last (course s) (spot_of run.spot) p →
      Opens last run (λ onward. Leads onward (leaf.Has o) frames state p)
  puts_in last o below frames run state p s course fits none puts waits = record {
    onward = waits.next;
    awaits = λ t outcome. waits.resumes t outcome;
    on = leads_from waits.next frames state waits.goes
        (subst (λ fs. Leads waits.next (leaf.Has o) frames state (left_of waits.next (course s) fs))
        none (puts.leads waits.next state s fits));
  }

  -- the code is over, with its outcome
  pub over_in : (last : Onward) (run : Run A) (outcome : Result (List ℕ) (Leave A))
      (state : State A) (p : Dialogue Over) → HasStopped last went.Over run state p →
      outcome ≡ run.spot.outcome →
      (let none : List (Frame A) = [] in Leads last (leaf.Has outcome) none state p)
  over_in last run outcome state p stopped is = record {
    status = stopped.status;
    fits = stopped.fits;
    goes = subst (λ it. Goes p (last stopped.status (outcome_of it))) (sym is) stopped.follows;
  }

  -- it stops where something begins, or is over
  pub never_stops : (last : Onward) (progress : Progress) (run : Run A) (state : State A)
      (p : Dialogue Over) → (progress ≡ went.Begins → ⊥) → (progress ≡ went.Says → ⊥) →
      (progress ≡ went.Runs → ⊥) → (progress ≡ went.Evaluates → ⊥) → (progress ≡ went.Over → ⊥) →
      HasStopped last progress run state p → ⊥
  never_stops last went.GoesOn run state p begins says runs evaluates over stopped =
      stopped.stops refl
  never_stops last went.Begins run state p begins says runs evaluates over stopped = begins refl
  never_stops last went.Says run state p begins says runs evaluates over stopped = says refl
  never_stops last went.Runs run state p begins says runs evaluates over stopped = runs refl
  never_stops last went.Evaluates run state p begins says runs evaluates over stopped =
      evaluates refl
  never_stops last went.Over run state p begins says runs evaluates over stopped = over refl
  never_stops last went.Stuck run state p begins says runs evaluates over stopped =
      stopped.follows

  -- what ended hands its outcome to the part that waits, or nothing is left
  pub end_goes : (parts : List (Part A)) (h : Handed A) (o : Result (List ℕ) (Leave A))
      (new : Running A) (after : Onward) (state : State A) (p : Dialogue Over) →
      IsBack parts h o new → Beneath parts after →
      (let none : List (Frame A) = [] in Leads after (leaf.Has o) none state p) →
      GoesOn h new state p
  end_goes [] h o new after state p back is leads = record {
    last = closing;
    below = record {
      after = closing;
      beneath = rw back.2 refl;
      under = rw back.1 refl;
    };
    hands = rw back.0 (subst (λ last. let none : List (Frame A) = [] in
        Leads last (leaf.Has o) none state p) is leads);
  }
  end_goes (part ∷ parts) h o new after state p back waits leads = record {
    last = waits.last;
    below = record {
      after = waits.base;
      beneath = rw back.3 waits.beneath;
      under = rw back.2 waits.under;
    };
    hands = rw back.0 (record {
      status = leads.status;
      fits = leads.fits;
      goes = then_goes leads.goes
          (same_goes (ap (λ next. next leads.status (outcome_of o)) waits.is
          ∙ ap (λ fs. onward_of waits.last (stack fs) leads.status (outcome_of o)) (sym back.1)));
    });
  }

  -- no more may begin then than before
  pub end_less : (parts : List (Part A)) (h : Handed A) (o : Result (List ℕ) (Leave A))
      (new : Running A) (most : ℕ) → IsBack parts h o new →
      again_of (outcome_of o) + waits_in parts ≤ most → IsLess h new most
  end_less [] h o new most back less = rw back.0 tt
  end_less (part ∷ parts) h o new most back less =
      rw (back.0, back.1, back.2, back.3) (omega (arith, less))

  takes_at_most : (code : Option (Run A)) → takes_of code ≤ 1 + 3 * places_in code
  takes_at_most None = omega arith
  takes_at_most (Some run) = omega arith

  -- and less is left to hand an outcome to
  pub end_falls : (parts : List (Part A)) (h : Handed A) (o : Result (List ℕ) (Leave A))
      (old new : Running A) → IsBack parts h o new → height parts ≤ depth old → Falls h old new
  end_falls [] h o old new back most = rw back.0 tt
  end_falls (part ∷ parts) h o old new back most =
      rw (back.0, back.1, back.2, back.3) (omega (arith, most, takes_at_most part.code))

  -- the frames and the code that were taken out wait as a part, the last one
  pub opened : (old new : Running A) (run : Run A) (frames waiting : Vec (Frame A) A)
      (code : Option (Run A)) → waiting ≡ old.frames → code ≡ old.code →
      new.parts.items ≡ old.parts.items ++ record { frames = waiting; code = code } ∷ [] →
      new.frames ≡ frames → new.code ≡ Some run → IsOpen old run frames new
  opened old new run frames waiting code was below put above is =
      let part : Part A = record { frames = waiting; code = code } in (
        ap reverse put ∙ reverse-append old.parts.items (part ∷ [])
            ∙ ap (λ fs. let it : Part A = record { frames = fs; code = code } in
            it ∷ parts_of old) was
            ∙ ap (λ c. let it : Part A = record { frames = old.frames; code = c } in
            it ∷ parts_of old) below,
        above,
        is,
      )

  -- below a code that is entered above the frames lie these, and what was below them
  pub open_below : (old new : Running A) (run : Run A) (frames : Vec (Frame A) A)
      (last onward : Onward) → IsOpen old run frames new → IsBelow old last →
      Awaits (onward_of last (stack old.frames)) run onward → IsBelow new onward
  open_below old new run frames last onward is lies awaits = record {
    after = onward_of last (stack old.frames);
    beneath = rw is.0 (record {
      base = lies.after;
      last = last;
      beneath = lies.beneath;
      under = lies.under;
      is = refl;
    });
    under = rw is.2 awaits;
  }

  -- what is less than this is less than more
  pub less_more : (h : Handed A) (running : Running A) (few most : ℕ) → few ≤ most →
      IsLess h running few → IsLess h running most
  less_more (handed.Over outcome) running few most more less = tt
  less_more (handed.Begins n) running few most more less = omega (arith, more, less)
  less_more (handed.Has outcome) running few most more less = omega (arith, more, less)

  pub falls_more : (h : Handed A) (old mid new : Running A) → depth mid ≤ depth old →
      Falls h mid new → Falls h old new
  falls_more (handed.Over outcome) old mid new more falls = tt
  falls_more (handed.Begins n) old mid new more falls = tt
  falls_more (handed.Has outcome) old mid new more falls = omega (arith, more, falls)

  -- where no instruction stands at a place, no places are left from there on
  pub none_left : (code : List (Instruction A)) (place : ℕ) → slice_get code place ≡ None →
      length code - place ≡ 0
  none_left [] place none = omega arith
  none_left (it ∷ its) zero none = absurd cc
  none_left (it ∷ its) (suc place) none = omega (arith, none_left its place none)

  -- what is less than this is less than more
  pub falls_to_more : (h : Handed A) (new : Running A) (few most : ℕ) → few ≤ most →
      FallsTo h new few → FallsTo h new most
  falls_to_more (handed.Over outcome) new few most more falls = tt
  falls_to_more (handed.Begins n) new few most more falls = tt
  falls_to_more (handed.Has outcome) new few most more falls = omega (arith, more, falls)

  -- a session that has this outcome hands it on
  pub leads_over : (running : Running A) {state : State A} (o : Result (List ℕ) (Leave A))
      (last : Onward) {p : Dialogue Over} → IsBelow running last →
      Leads last (leaf.Has o) (stack running.frames) state p →
      ComesOver running state (outcome_of o) p
  leads_over running o last below leads = record {
    last = last;
    below = below;
    status = leads.status;
    fits = leads.fits;
    goes = leads.goes;
  }

  -- where nothing is done yet, the outcome is the first one
  pub comes_first : (running : Running A) (state : State A) (o : Outcome) →
      ComesFrom running state o running state o
  comes_first running state o = λ last s fits below. record {
    last = last;
    below = below;
    status = s;
    fits = fits;
    goes = here;
  }

  -- an outcome is handed on, and it is known what comes of it
  pub handed_on : {old new : Running A} {before now : State A} {o : Outcome} {p : Dialogue Over}
      {h known : Handed A} → h ≡ known → ComesOver old before o p →
      ((last : Onward) (s : Status) → FitsState before s → IsBelow old last →
      GoesOn h new now (onward_of last (stack old.frames) s o)) → GoesOn known new now p
  handed_on {old = old} {new = new} {now = now} {o = o} {known = known} is comes goes_on =
      goes_on_from known new now comes.goes
      (subst (λ h. GoesOn h new now (onward_of comes.last (stack old.frames) comes.status o)) is
      (goes_on comes.last comes.status comes.fits comes.below))

  -- what began above the frames is told by what it has come to, and by what lies below them
  pub record Started (l : Leaf A (Waits A)) (running : Running A) (state : State A)
      (p : Dialogue Over) : Type 0 where
    pub last : Onward
    pub below : IsBelow running last
    pub leads : Leads last l (stack running.frames) state p

  pub started : {running : Running A} {before now : State A} {p : Dialogue Over} (n : Next A)
      (frames : Vec (Frame A) A) {l known : Leaf A (Waits A)} → l ≡ known →
      GoesOn (handed.Begins n) running before p →
      ((last : Onward) (s : Status) → FitsState before s →
      Leads last l (stack frames) now
      (left_of last (course_of_next n s) (stack running.frames))) →
      Started known (record running { frames = frames }) now p
  started {running = running} {now = now} n frames is on leads = record {
    last = on.last;
    below = on.below;
    leads = leads_from on.last (stack frames) now on.hands.goes
        (subst (λ l. Leads on.last l (stack frames) now
        (left_of on.last (course_of_next n on.hands.status) (stack running.frames))) is
        (leads on.last on.hands.status on.hands.fits));
  }

-- what a session stands before after silent steps
pub stands_over_from : {A : Type 0} {running : Running A} {at : Phase A} {state : State A}
    {answers : ℕ} {p q : Dialogue Over} → Goes p q → StandsOver running at state answers q →
    StandsOver running at state answers p
stands_over_from {running = running} {state = state} goes over = record {
  last = over.last;
  below = over.below;
  stands = stands_from over.last (stack running.frames) state goes over.stands;
}

pub comes_over_from : {A : Type 0} {running : Running A} {state : State A} {o : Outcome}
    {p q : Dialogue Over} → Goes p q → ComesOver running state o q → ComesOver running state o p
comes_over_from goes comes = record {
  last = comes.last;
  below = comes.below;
  status = comes.status;
  fits = comes.fits;
  goes = then_goes goes comes.goes;
}

module _ {A : Type 0} (script : Script A) (text : List ℕ)
    (is : IsScript (commands_of script.commands) (option_map fault_of script.fault) text) where
  -- a script whose code waits is the whole of its text
  pub code_whole : (running : Running A) (run : Run A) → running.code ≡ Some run →
      stack running.frames ≡ [] → parts_of running ≡ [] →
      ((last : Onward) → Awaits last run (λ s outcome.
      and_then (on_value (meant most_levels (seen script).commands
      (seen script).fault) s outcome)
      (onward last))) →
      IsWhole running text
  code_whole running run coded none alone awaits = record {
    last = λ s outcome.
        and_then (on_value (meant most_levels (seen script).commands (seen script).fault) s
        outcome) (onward closing);
    below = record {
      after = closing;
      beneath = rw alone refl;
      under = rw coded (awaits closing);
    };
    goes = λ args limit. reads {text = ScriptText text} (seen script) is (calls (rw none here));
  }
