-- What commands show that see one part of the state alone, and what they keep to, whatever they
-- mean.
use Rattle.std.proofs.Common.{◌≡◌, ℕ, ◌≤◌, List, Result, Ok, Err, refl, ap, arith}
use Rattle.state.specs.Prelude.{Deed, Reply, Flaw, flaw_of, Raise, Behaves, worth, Course, Shows, Reaches, Status, FitsState, Scopes}
use Rattle.acts.specs.declared.raise.Raise.TheVariants as raise
use Rattle.kinds.specs.Answers.{Comes}
use Rattle.kinds.specs.Kinds.{definings, leaves, locals, reports, with_procedures, with_scopes}
use Rattle.kinds.specs.Readings.{Done, Reading, Found, Reads, ComesTo, Leaves}
use Rattle.state.proofs.Reaches.{same_reaches}
use Rattle.state.specs.Reaches.{reads}
use Rattle.state.specs.declared.leaf.Leaf.TheVariants as leaf
use Rattle.state.specs.declared.state.State.{State}
use Rattle.tclstate.specs.Procs.{Procs}

module _ {V : Type 0} (back : V → Status → Status) where
  -- once the texts of its reading are read, a command is over with the answer of the reading
  reaches_done : (r : Reading (Done V)) (done : Done V) (s : Status) → ComesTo r done →
      Reaches (leaves back r s) (reports done.1 (back done.0 s))
  reaches_done (Found other) done s is =
      same_reaches (ap (λ (d : Done V). reports d.1 (back d.0 s)) is)
  reaches_done (Reads text next) done s comes =
      reads {text = text} comes.0 comes.1 (reaches_done (next comes.0) done s comes.2)

  -- the code's state has the part that the command left
  module _ {A W : Type 0} (next : W → Deed → Status → Reply → Course) (state : State A)
      (s : Status) (new : V) (fits : FitsState state (back new s)) where
    pub left_shows : (r : Reading (Done V)) (value : List ℕ) → ComesTo r (new, Ok value) →
        Shows next (leaf.Has (Ok value)) state (leaves back r s)
    left_shows r value comes = record {
      status = back new s;
      fits = fits;
      reaches = reaches_done r (new, Ok value) s comes;
    }

    pub left_fails : (r : Reading (Done V)) (why : Raise A) → Leaves r (Err why) new →
        Comes next (leaves back r s) (Err why) state
    left_fails r (raise.Fault why) comes = record {
      status = back new s;
      fits = fits;
      reaches = reaches_done r (new, Err (flaw_of why)) s comes;
    }
    left_fails r (raise.NoMemory refusal) comes = tt

  -- putting the part back takes no tick and opens nothing
  module _ (ticks : (v : V) (s : Status) → (back v s).left ≡ s.left)
      (acts : (v : V) (s : Status) → worth (back v s) ≡ worth s) where
    done_behaves : (v : V) (r : Result (List ℕ) Flaw) (s : Status) (had : ℕ) → worth s ≤ had →
        Behaves s.left had (reports r (back v s))
    done_behaves v (Ok value) s had paid =
        (omega (arith, ticks v s), omega (arith, acts v s, paid))
    done_behaves v (Err flaw) s had paid =
        (omega (arith, ticks v s), omega (arith, acts v s, paid))

    -- the command runs no script, takes no tick and makes no act
    pub leaves_behave : (r : Reading (Done V)) (s : Status) (had : ℕ) → worth s ≤ had →
        Behaves s.left had (leaves back r s)
    leaves_behave (Found done) s had paid = done_behaves done.0 done.1 s had paid
    leaves_behave (Reads text next) s had paid = λ tree is. leaves_behave (next tree) s had paid

-- local commands behave
pub locals_behave : (r : Reading (Done Scopes)) (s : Status) (had : ℕ) → worth s ≤ had →
    Behaves s.left had (locals r s)
locals_behave r s had paid =
    leaves_behave with_scopes (λ v t. refl) (λ v t. refl) r s had paid

-- commands that define behave
pub definings_behave : (r : Reading (Done Procs)) (s : Status) (had : ℕ) → worth s ≤ had →
    Behaves s.left had (definings r s)
definings_behave r s had paid =
    leaves_behave with_procedures (λ v t. refl) (λ v t. refl) r s had paid
