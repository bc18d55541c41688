-- The token has no field at run time: its one value owns nothing, and its ghost number is what the contract says.
use Rattle.std.proofs.Common.{[], ◌∷◌, refl}
use Rattle.std.proofs.raw_atomic.Walks.{proved}
use base.Fml.{Fml, ftrue}
use mir.Syntax.{named}
use mir.Val.{vstruct, vnil}
use types.Kit.{‵, raw, ◌⊛◌, ◌$◌, ◌∵◌, !, qed, move, split, suffices, done, drop}
use types.Run.{enter, no_more, returns}
use types.Part.{agg}
use types.ByLocal.{alloc_all, pass_all, free_all, look_at, sets}
use denote.Exit.{yes}
use denote.RattleType.{owns}
use denote.Ref.{shr_vals, shr_Tells}
use denote.Shadow.{pure_i}
use denote.Signature.{plain, types_at}
use denote.Triple.Entry.{alive}
use denote.Triple.Walked.{Stays, walk_of, says, stay_none_ref, Goes-none_ref, ends_at}
use denote.Builtin.{usize}
use Rattle.growth.specs.contracts.count.Count as token
use Rattle.growth.specs.contracts.count.Count.of as f
use Rattle.growth.proofs.count.Count.of.Statement.{statement}
use Rattle.growth.proofs.count.Count.of.Code as code

abbrev stayed : Stays f.ended.signature.params f.ended.kept
stayed = (stay_none_ref (0 ∷ []) tt (plain (λ _. usize)) yes, tt)

pub of_spec : {M : Type 1} → statement M
of_spec 𝓤 𝓛 𝓜 𝓡 wired =
    let c = f.clauses 𝓛 𝓜.mem 𝓡.returns in
    let W = walk_of 𝓛 f.ended stayed c in
    proved 𝓛 f.ended stayed c 𝓜 𝓡 (Goes-none_ref 𝓛 1 (0 ∷ []) tt (plain (λ _. usize)) yes, tt)
    f.Key.name code.function (code.unfolded 𝓤 𝓛.H 𝓜 𝓡 wired)
    (λ κs. (shr_vals, tt))
    (λ κs. (shr_Tells (named 0) κs.0 usize, tt))
    (λ κs qs bounds a _ are.
    let y : W.Ghost = ((κs, qs, bounds, a, (shr_vals a.0, tt)), tt) in
    let passed : Fml = owns (types_at f.signature.params κs) a (shr_vals a.0, tt) in
    qed 𝓛 ((raw (alive 𝓛 f.signature κs qs) ⊛ ‵ passed) ∷ ‵ ftrue ∷ []) ∵
    split ! $ move ! (2 ∷ []) $ drop ! $ enter ! _ _ _ _ _ $
    alloc_all ! (λ l. pass_all ! refl ((tt, tt), tt) $ sets ! (agg ! (no_more !)) refl (tt, tt) $
    returns ! (look_at ! 0 refl) $ free_all ! refl $
    suffices ! _ (ends_at 𝓛 f.ended stayed c y (vstruct vnil) (record { number = a.0.now }) (tt, tt) (tt, tt)) $
    says ! refl $ pure_i ! (token.the_row.own_val (record { number = a.0.now }) (vstruct vnil ∷ [])) ((λ vss. (tt, tt)), tt) ((tt, (refl, tt)), tt) $
    move ! (1 ∷ 2 ∷ 0 ∷ []) $ done !))
