-- The token has no field at run time: its one value owns nothing, and its ghost fields are what the contract says.
use Rattle.std.proofs.Common.{◌++◌, [], ◌∷◌, refl}
use Rattle.std.proofs.raw_atomic.Walks.{proved}
use base.Fml.{Fml, ftrue}
use mir.Syntax.{named}
use mir.Val.{vstruct, vnil}
use types.Kit.{‵, raw, ◌⊛◌, ◌$◌, ◌∵◌, !, qed, move, split, suffices, done, drop}
use types.Run.{enter, no_more, returns}
use types.Part.{agg}
use types.ByLocal.{alloc_all, pass_all, free_all, look_at, sets}
use denote.Builtin.{u8, usize}
use denote.Exit.{yes}
use denote.RattleType.{owns}
use denote.Ref.{shr_vals, shr_Tells}
use denote.Shadow.{pure_i}
use denote.Signature.{plain, types_at}
use denote.Slice.{shr_slice_vals, shr_slice_Tells}
use denote.Triple.Entry.{alive}
use denote.Triple.Walked.{Stays, walk_of, says, stay_none_ref, stay_none_slice, Goes-none_ref, Goes-none_slice, ends_at}
use Rattle.dft_program.specs.contracts.account.Account as token
use Rattle.dft_program.specs.contracts.account.Account.with as f
use Rattle.dft_program.proofs.account.Account.with.Statement.{statement}
use Rattle.dft_program.proofs.account.Account.with.Code as code

abbrev stayed : Stays f.ended.signature.params f.ended.kept
stayed = (
  stay_none_ref (0 ∷ []) tt (plain (λ _. token.the_row)) yes,
  (
    stay_none_ref (1 ∷ []) tt (plain (λ _. usize)) yes,
    (
      stay_none_slice (2 ∷ []) tt (plain (λ _. u8)) yes,
      (stay_none_ref (3 ∷ []) tt (plain (λ _. usize)) yes, tt),
    ),
  ),
)

-- The body makes a value with no field at run time, and gives back the four arguments: a reference, two numbers by
-- reference, and a slice. Its ghost field is the list before with one call more, which is `made`.
pub with_spec : {M : Type 1} → statement M
with_spec 𝓤 𝓛 𝓜 𝓡 wired =
    let c = f.clauses 𝓛 𝓜.mem 𝓡.returns in
    let W = walk_of 𝓛 f.ended stayed c in
    proved 𝓛 f.ended stayed c 𝓜 𝓡 (
      Goes-none_ref 𝓛 4 (0 ∷ []) tt (plain (λ _. token.the_row)) yes,
      (
        Goes-none_ref 𝓛 4 (1 ∷ []) tt (plain (λ _. usize)) yes,
        (
          Goes-none_slice 𝓛 4 (2 ∷ []) tt (plain (λ _. u8)) yes,
          (Goes-none_ref 𝓛 4 (3 ∷ []) tt (plain (λ _. usize)) yes, tt),
        ),
      ),
    )
    f.Key.name code.function (code.unfolded 𝓤 𝓛.H 𝓜 𝓡 wired)
    (λ κs. (shr_vals, (shr_vals, (shr_slice_vals, (shr_vals, tt)))))
    (λ κs. (
      shr_Tells (named 0) κs.0 token.the_row,
      (
        shr_Tells (named 1) κs.1.0 usize,
        (shr_slice_Tells (named 2) κs.1.1.0 u8, (shr_Tells (named 3) κs.1.1.1.0 usize, tt)),
      ),
    ))
    (λ κs qs bounds a _ are.
    let y : W.Ghost = ((κs, qs, bounds, a, (shr_vals a.0, (shr_vals a.1.0, (shr_slice_vals a.1.1.0, (shr_vals a.1.1.1.0, tt))))), tt) in
    let passed : Fml = owns (types_at f.signature.params κs) a (shr_vals a.0, (shr_vals a.1.0, (shr_slice_vals a.1.1.0, (shr_vals a.1.1.1.0, tt)))) in
    let made : token.the_row.Denot = record { calls = a.0.now.calls ++ record { place = a.1.0.now; bytes = a.1.1.0.now; failures = a.1.1.1.0.now } ∷ [] } in
    qed 𝓛 ((raw (alive 𝓛 f.signature κs qs) ⊛ ‵ passed) ∷ ‵ ftrue ∷ []) ∵
    split ! $ move ! (2 ∷ []) $ drop ! $ enter ! _ _ _ _ _ $
    alloc_all ! (λ l. pass_all ! refl (
      (tt, tt),
      (
        (tt, tt),
        (
          (tt, (tt, (record { fits = are.1.1.0.0.1.0 }, tt))),
          ((tt, tt), tt),
        ),
      ),
    ) $ sets ! (agg ! (no_more !)) refl (tt, tt) $
    returns ! (look_at ! 0 refl) $ free_all ! refl $
    suffices ! _ (ends_at 𝓛 f.ended stayed c y (vstruct vnil) made (tt, (tt, (tt, (tt, tt)))) (tt, (tt, (tt, (tt, tt))))) $
    says ! refl $ pure_i ! (token.the_row.own_val made (vstruct vnil ∷ [])) ((λ vss. (tt, tt)), tt) ((tt, (refl, tt)), tt) $
    move ! (1 ∷ 2 ∷ 0 ∷ []) $ done !))
