-- The filings on a lent register: what tells one from the other, and the contract of the filing by value that each calls.
use Prim.Native.Nat.{ℕ}
use mathlib.Core.Path.{◌≡◌}
use mathlib.Core.List.{List, [], ◌∷◌}
use seplogic.Ra.Ura.{Ura}
use mir.Val.{Val}
use base.Logic.{emp}
use types.Logic.{Logic}
use contract.Monad.{fact}
use denote.RattleType.{RattleType}
use denote.Builtin.{u8, SliceRefOf}
use denote.Signature.{plain}
use denote.Struct.Laws as LL
use denote.Triple.Statement.{Contract}
use denote.Triple.Spec.{triple_of}
use denote.Triple.Clauses.{Clauses, Ended, closing}
use denote.Exit.{yes}
use Rattle.std.specs.Prelude.{Result}
use Rattle.std.specs.contracts.result.Result as Results
use Rattle.outcome.specs.declared.Refusal.{Refusal}
use Rattle.outcome.specs.contracts.Refusal as Refusals
use Rattle.register.specs.declared.Register.{Register}
use Rattle.register.specs.contracts.Register as R
use Rattle.register.proofs.Register.TheLaws as R'

-- The machine value of a register.
abbrev pub register_val : Register → Val
register_val = LL.val R.the_type R'.the_laws

-- What tells one filing from the other.
pub record Filing : Type 2 where
  -- what the filing by value gives, what an accepted one answers, and the answer in what is given
  pub given : RattleType
  pub accepted : RattleType
  pub answer : given.Denot → Result accepted.Denot Refusal
  pub files : Register → List ℕ → given.Denot

module _ (F : Filing) where
  -- the answers as a type
  abbrev pub answered : RattleType
  answered = Results.the_row F.accepted Refusals.the_row

  -- the signature of the filing by value, its clauses and its contract
  abbrev pub called : Ended
  called = record {
    signature = record {
      lifetimes = 1;
      outlives = [];
      params = plain (λ _. R.the_row) ∷ SliceRefOf (0 ∷ []) tt (plain (λ _. u8)) (λ _. tt) ∷ [];
      result = plain (λ _. F.given);
    };
    kept = (yes, (yes, tt));
  }

  module _ {M : Type 1} (𝓤 : Ura M) where
    abbrev pub called_clauses : Clauses 𝓤 called
    called_clauses κs a = record {
      ghost = Unit {0};
      requires = λ _. emp 𝓤;
      ensures = λ _ f e. fact 𝓤 (f ≡ F.files a.0 a.1.0.now);
    }

    abbrev pub Files : (𝓛 : Logic 𝓤) → Contract 𝓤
    Files 𝓛 = triple_of 𝓛 called.signature (closing 𝓛 called called_clauses)
