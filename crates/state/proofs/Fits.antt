-- The two states fit again where one part of both has changed.
use Rattle.std.proofs.Common.{ℕ, refl}
use Rattle.choices.specs.declared.log_state.LogState.{LogState}
use Rattle.state.specs.Ids as definition
use Rattle.state.specs.Prelude.{Status, FitsState, Scopes}
use Rattle.state.specs.View.{FitsIds}
use Rattle.state.specs.declared.ids.Ids.{Ids}
use Rattle.state.specs.declared.state.State.{State}
use Rattle.tclstate.specs.Procs.{Procs}

module _ {A : Type 0} (state : State A) (s : Status) (fits : FitsState state s) where
  -- the variables
  pub scopes_fit : (scopes : Scopes) →
      FitsState (record state { scopes = scopes }) (record s { scopes = scopes })
  scopes_fit scopes = record {
    scopes = refl;
    procedures = fits.procedures;
    ids = fits.ids;
    log = fits.log;
    left = fits.left;
  }

  -- the procedures
  pub procedures_fit : (procs : Procs) →
      FitsState (record state { procs = procs }) (record s { procedures = procs })
  procedures_fit procs = record {
    scopes = fits.scopes;
    procedures = refl;
    ids = fits.ids;
    log = fits.log;
    left = fits.left;
  }

  -- the ids
  pub ids_fit : (new : Ids A) (ids : definition.Ids) → FitsIds new ids →
      FitsState (record state { ids = new }) (record s { ids = ids })
  ids_fit new ids fit = record {
    scopes = fits.scopes;
    procedures = fits.procedures;
    ids = fit;
    log = fits.log;
    left = fits.left;
  }

  -- where arrivals are written
  pub log_fits : (log : LogState) →
      FitsState (record state { log = log }) (record s { log = log })
  log_fits log = record {
    scopes = fits.scopes;
    procedures = fits.procedures;
    ids = fits.ids;
    log = refl;
    left = fits.left;
  }

  -- the ticks that are left
  pub left_fits : (left : ℕ) → FitsState (record state { left = left }) (record s { left = left })
  left_fits left = record {
    scopes = fits.scopes;
    procedures = fits.procedures;
    ids = fits.ids;
    log = fits.log;
    left = refl;
  }
