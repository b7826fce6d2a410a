-- What the commands of a kind keep to, whatever they mean.
use Rattle.std.proofs.Common.{◌≡◌, ℕ, ◌+◌, ◌-◌, ◌≤◌, Result, Ok, Err, refl, arith}
use Rattle.state.specs.Prelude.{Flaw, Behaves, worth, Outcome, Status}
use Rattle.choices.proofs.Opened.{count_set_nulls, count_shut, count_sized}
use Rattle.kinds.proofs.Opened.{worth_opened}
use Rattle.kinds.proofs.Reaped.{count_reaped}
use Rattle.kinds.specs.Edits.{Edit, Binds, Sizes, SizesLater, DropsNulls, DropsNullsLater, Shuts, Reaps, Skips, ShowsArrivals, EndsLog, Opening, OpensId, OpensLog, edited, opened_by}
use Rattle.kinds.specs.Exchange.{Exchange, Over, Edits, Opens, Performs, course, talks}
use Rattle.kinds.specs.Kinds.{exits}
use Rattle.state.proofs.Behaves.{ask_behaves}

-- a change takes no tick, and opens nothing
left_edited : (edit : Edit) (s : Status) → (edited edit s).left ≡ s.left
left_edited (Binds scopes) s = refl
left_edited (Sizes i bytes) s = refl
left_edited (SizesLater bytes) s = refl
left_edited (DropsNulls i drops) s = refl
left_edited (DropsNullsLater drops) s = refl
left_edited (Shuts i) s = refl
left_edited (Reaps i) s = refl
left_edited Skips s = refl
left_edited (ShowsArrivals shows) s = refl
left_edited EndsLog s = refl

worth_edited : (edit : Edit) (s : Status) → worth (edited edit s) ≤ worth s
worth_edited (Binds scopes) s = omega arith
worth_edited (Sizes i bytes) s = omega (arith, count_sized bytes i s.ids.peers)
worth_edited (SizesLater bytes) s = omega arith
worth_edited (DropsNulls i drops) s = omega (arith, count_set_nulls drops i s.ids.peers)
worth_edited (DropsNullsLater drops) s = omega arith
worth_edited (Shuts i) s = omega (arith, count_shut i s.ids.peers)
worth_edited (Reaps i) s = omega (arith, count_reaped i s.ids.peers)
worth_edited Skips s = omega arith
worth_edited (ShowsArrivals shows) s = omega arith
worth_edited EndsLog s = omega arith

left_opened : (opening : Opening) (s : Status) → (opened_by opening s).left ≡ s.left
left_opened (OpensId i kind) s = refl
left_opened (OpensLog all) s = refl

-- an exchange pays for its acts and openings, and takes no tick
exchange_behaves : {n : ℕ} (exchange : Exchange n) (t had : ℕ) (s : Status) → s.left ≤ t →
    worth s + n ≤ had → Behaves t had (course exchange s)
exchange_behaves (Over outcome) t had s le paid = (le, omega (arith, paid))
exchange_behaves (Edits edit rest) t had s le paid =
    exchange_behaves rest t had (edited edit s) (omega (arith, left_edited edit s, le))
    (omega (arith, worth_edited edit s, paid))
exchange_behaves (Opens opening rest) t had s le paid =
    exchange_behaves rest t had (opened_by opening s) (omega (arith, left_opened opening s, le))
    (omega (arith, worth_opened opening s, paid))
exchange_behaves (Performs deed holds next) t had s le paid =
    ask_behaves t had deed s (λ u reply. course (next u reply) u) holds le (omega (arith, paid))
    (λ reply. exchange_behaves (next s reply) t (had - 1) s le (omega (arith, paid)))

-- commands that act behave
pub talks_behave : (r : Result (Exchange 4) Flaw) (s : Status) →
    Behaves s.left (worth s + 4) (talks r s)
talks_behave (Ok exchange) s =
    exchange_behaves exchange s.left (worth s + 4) s (omega arith) (omega arith)
talks_behave (Err flaw) s = (omega arith, omega arith)

-- commands that read or set a setting behave
pub sets_behave : (r : Result (Exchange 0) Flaw) (s : Status) →
    Behaves s.left (worth s + 4) (talks r s)
sets_behave (Ok exchange) s =
    exchange_behaves exchange s.left (worth s + 4) s (omega arith) (omega arith)
sets_behave (Err flaw) s = (omega arith, omega arith)

-- exits behave
pub exits_behave : (r : Result Outcome Flaw) (s : Status) →
    Behaves s.left (worth s + 4) (exits r s)
exits_behave (Ok outcome) s = (omega arith, omega arith)
exits_behave (Err flaw) s = (omega arith, omega arith)
