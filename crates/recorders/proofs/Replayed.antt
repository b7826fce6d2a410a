-- A replay of what was recorded.
use Rattle.std.proofs.Common.{◌≡◌, ◌+◌, ◌⊎◌, ℕ, suc, Bool, true, false, List, [], ◌∷◌, ◌++◌, Some, None, refl, sym, ap, ◌∙◌, subst, inl, inr}
use Rattle.acts.specs.declared.row.Row.{Row}
use Rattle.acts.specs.Deed.{Deed, Reply}
use Rattle.acts.specs.Deed as said
use Rattle.acts.specs.History.{History, Past}
use Rattle.records.specs.Entry.{Note}
use Rattle.records.proofs.Records.{same_cons}
use Rattle.std.specs.List.{list_all}
use Rattle.recorders.specs.Laws.{AreLedAlike, EndsAtNoMore, IsReplayed}
use Rattle.recorders.specs.Recorder.{entries_of, entry_of, is_row, rows_of, told_rows}
use Rattle.replays.specs.Due.{IsDue}
use Rattle.replays.specs.Recording.{Answers, Recorded}
use Rattle.replays.specs.Replay.{Replays}

-- an answer is `NoMore`, or has an entry
entry_cases : (act : Deed) (reply : Reply) → (reply ≡ said.NoMore)
    ⊎ (entry_of act reply ≡ record { rows = rows_of act; reply = reply } ∷ [])
entry_cases act said.Done = inr refl
entry_cases act (said.Failed sent) = inr refl
entry_cases act (said.Started pid) = inr refl
entry_cases act said.Refused = inr refl
entry_cases act (said.Exited status) = inr refl
entry_cases act (said.Arrive id bytes) = inr refl
entry_cases act (said.Ended id) = inr refl
entry_cases act said.TimedOut = inr refl
entry_cases act said.NoMore = inl refl

-- the entry of an act is due to it
told_due : (rows : List Row) (timer : _) (b : Bool) → list_all is_row rows ≡ b →
    IsDue (told_rows rows) (said.Wait rows timer)
told_due rows timer true is = rw is refl
told_due rows timer false is = rw is tt

is_due : (act : Deed) → IsDue (rows_of act) act
is_due (said.Out bytes) = tt
is_due (said.Err bytes) = tt
is_due (said.Log bytes) = tt
is_due (said.Send id bytes) = tt
is_due (said.Spawn id words) = tt
is_due (said.Connect id host port) = tt
is_due (said.OpenLog name mode) = tt
is_due (said.Close id) = tt
is_due (said.Sleep seconds) = tt
is_due said.CloseLog = tt
is_due (said.Reap id) = tt
is_due (said.Wait rows timer) = told_due rows timer (list_all is_row rows) refl

-- a recorded run of which some entries are left, and none has differed
abbrev at : List Note → ℕ → Recorded
at entries answered = record { entries = entries; answered = answered; differs = None }

-- what a replay answers where no entry is left
none_left : (answered : ℕ) (act : Deed) (reply : Reply) (before after : Recorded) →
    before ≡ at [] answered → Answers before act reply after →
    (reply ≡ said.NoMore) × (after ≡ at [] answered)
none_left answered act reply before after is answers = rw is at answers

due_given : (entries : List Note) (answered : ℕ) (act : Deed) (told reply : Reply)
    (after : Recorded) →
    (IsDue (rows_of act) act × (reply ≡ told) × (after ≡ at entries (answered + 1)))
    ⊎ ((¬ IsDue (rows_of act) act) × (reply ≡ said.NoMore)
    × (after ≡ record { entries = entries; answered = answered; differs = Some (answered + 1) })) →
    (reply ≡ told) × (after ≡ at entries (answered + 1))
due_given entries answered act told reply after (inl (due, same, left)) = (same, left)
due_given entries answered act told reply after (inr (other, none, left)) =
    absurd (other (is_due act))

-- what a replay answers where the entry of the act is next
next_given : (entries : List Note) (answered : ℕ) (act : Deed) (told reply : Reply)
    (before after : Recorded) →
    before ≡ at (record { rows = rows_of act; reply = told } ∷ entries) answered →
    Answers before act reply after → (reply ≡ told) × (after ≡ at entries (answered + 1))
next_given entries answered act told reply before after is answers =
    due_given entries answered act told reply after (rw is at answers)

tail_of : (a b : Deed) (xs ys : List Deed) → a ∷ xs ≡ b ∷ ys → xs ≡ ys
tail_of a b xs ys e = cc e

-- histories that are led alike begin with the same act
same_act : (a b : Deed × Reply) (h k : History) → AreLedAlike (a ∷ h) (b ∷ k) → a.0 ≡ b.0
same_act a b h k alike = cc (alike 0 refl)

-- where the first answers are the same too, the rest is led alike
led_behind : (a b : Deed × Reply) (h k : History) → a.1 ≡ b.1 → AreLedAlike (a ∷ h) (b ∷ k) →
    AreLedAlike h k
led_behind a b h k same alike = λ n front.
    tail_of a.0 b.0 _ _ (alike (suc n) (same_cons a.1 b.1 _ _ same front))

-- a history that is led as an empty one is empty
over_alike : (b : Deed × Reply) (k : History) → AreLedAlike [] (b ∷ k) → ⊥
over_alike b k alike = cc (alike 0 refl)

goes_alike : (a : Deed × Reply) (h : History) → AreLedAlike (a ∷ h) [] → ⊥
goes_alike a h alike = cc (alike 0 refl)

nothing_more : (k : History) → AreLedAlike [] k → k ≡ []
nothing_more [] alike = refl
nothing_more (b ∷ k) alike = absurd (over_alike b k alike)

same_pair : (a b : Deed × Reply) → a.0 ≡ b.0 → a.1 ≡ b.1 → b ≡ a
same_pair a b act reply =
    ap (λ (x : Deed). (x, b.1)) (sym act) ∙ ap (λ (y : Reply). (a.0, y)) (sym reply)

same_history : (a b : Deed × Reply) (h k : History) → b ≡ a → k ≡ h → b ∷ k ≡ a ∷ h
same_history a b h k pair rest = cc (pair, rest)

module _ {O E : Type 0} (out : O → List ℕ → O → Type 0) (out_failed : O → Bool)
    (err : E → List ℕ → E → Type 0) (err_failed : E → Bool) where
  -- a replay of the rest of a recorded run, after some of its entries were given
  abbrev IsOn : History → History → Type 0
  IsOn h k =
      (answered : ℕ) (first now : Recorded × (O × E)) →
      EndsAtNoMore h → AreLedAlike h k → first.0 ≡ at (entries_of h) answered →
      Past (Replays out out_failed err err_failed) first now k →
      (k ≡ h) × (now.0.differs ≡ None)

  -- the next act had no answer: both histories are over
  at_end : (a b : Deed × Reply) (h k : History) → a.1 ≡ said.NoMore → IsOn (a ∷ h) (b ∷ k)
  at_end a b h k none answered first now ends alike is (mid, (answers, writes), past) =
      let nothing : h ≡ [] = ends.0 none in
      let empty : entries_of (a ∷ h) ≡ [] = rw (none, nothing) refl in
      let (given, left) = none_left answered b.0 b.1 first.0 mid.0
      (is ∙ ap (λ entries. at entries answered) empty) answers in
      let reply : a.1 ≡ b.1 = none ∙ sym given in
      let over : k ≡ [] =
      nothing_more k (subst (λ h. AreLedAlike h k) nothing (led_behind a b h k reply alike)) in
      let stays : mid ≡ now = subst (λ k. Past (Replays out out_failed err err_failed) mid now k)
      over past in (
        same_history a b h k (same_pair a b (same_act a b h k alike) reply) (over ∙ sym nothing),
        ap (λ state. state.0.differs) (sym stays) ∙ ap (λ recorded. recorded.differs) left,
      )

  -- the next act was answered: the replay answers it in the same way
  on_by : (a b : Deed × Reply) (h k : History) → IsOn h k →
      entry_of a.0 a.1 ≡ record { rows = rows_of a.0; reply = a.1 } ∷ [] → IsOn (a ∷ h) (b ∷ k)
  on_by a b h k on entry answered first now ends alike is (mid, (answers, writes), past) =
      let act : a.0 ≡ b.0 = same_act a b h k alike in
      let note : Note = record { rows = rows_of b.0; reply = a.1 } in
      let next : entries_of (a ∷ h) ≡ note ∷ entries_of h =
      ap (λ front. front ++ entries_of h) entry
      ∙ ap (λ deed. record { rows = rows_of deed; reply = a.1 } ∷ entries_of h) act in
      let (reply, left) = next_given (entries_of h) answered b.0 a.1 b.1 first.0 mid.0
      (is ∙ ap (λ entries. at entries answered) next) answers in
      let (same, differs) = on (answered + 1) mid now ends.1
      (led_behind a b h k (sym reply) alike) left past in
      (same_history a b h k (same_pair a b act (sym reply)) same, differs)

  on_from : (h k : History) → IsOn h k
  on_from [] [] = λ answered first now ends alike is past.
      (refl, ap (λ state. state.0.differs) (sym past) ∙ ap (λ recorded. recorded.differs) is)
  on_from [] (b ∷ k) = λ answered first now ends alike is past. absurd (over_alike b k alike)
  on_from (a ∷ h) [] = λ answered first now ends alike is past. absurd (goes_alike a h alike)
  on_from (a ∷ h) (b ∷ k) =
      elim (entry_cases a.0 a.1) [
        | inl none ↦ at_end a b h k none
        | inr entry ↦ on_by a b h k (on_from h k) entry
      ]

  pub is_replayed : IsReplayed out out_failed err err_failed
  is_replayed h k first now = on_from h k 0 first now
