-- However many acts are to spare, a program is started by the same course.
use Rattle.std.proofs.Common.{◌≡◌, ℕ, List, Result, Ok, Err, refl}
use Rattle.std.specs.Prelude.{decimal}
use Rattle.state.specs.Prelude.{Id, Reply, Flaw, bind, ask, Status, Scopes}
use Rattle.acts.specs.Deed as said
use Rattle.choices.specs.Kinds.{Process}
use Rattle.kinds.specs.Edits.{Binds, OpensId, opened_by}
use Rattle.kinds.specs.Exchange.{Edits, course, gives, settled, written}
use Rattle.processes.specs.Launch.{in_force, runs, started, starts}
use Rattle.processes.specs.Numbers.{next_id}

module _ (n m : ℕ) where
  entering : (value : List ℕ) (r : Result Scopes Flaw) (s : Status) →
      course (settled (bind r (λ new. Ok (Edits {n = n} (Binds new) (gives value))))) s
      ≡ course (settled (bind r (λ new. Ok (Edits {n = m} (Binds new) (gives value))))) s
  entering value (Ok new) s = refl
  entering value (Err flaw) s = refl

  running : (pid : ℕ) (r : Result Id Flaw) (s : Status) →
      course (settled (bind r (λ i. Ok (runs {n = n} pid s i)))) s
      ≡ course (settled (bind r (λ i. Ok (runs {n = m} pid s i)))) s
  running pid (Ok i) s =
      entering (decimal pid) (in_force i s.scopes) (opened_by (OpensId i (Process pid)) s)
  running pid (Err flaw) s = refl

  after_start : (words : List (List ℕ)) (s : Status) (reply : Reply) →
      course (started {n = n} words s reply) s ≡ course (started {n = m} words s reply) s
  after_start words s (said.Started pid) = running pid (next_id s) s
  after_start words s _ = refl

  pub after_write : (i : Id) (words : List (List ℕ)) (s : Status) (reply : Reply) →
      course (written (starts {n = n} i words) reply) s
      ≡ course (written (starts {n = m} i words) reply) s
  after_write i words s (said.Failed sent) = refl
  after_write i words s _ =
      λ j. ask (said.Spawn i words) s (λ t reply. after_start words t reply j)
