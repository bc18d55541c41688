-- A job that can be run has one answer.
use Rattle.p3_dft.proofs.Names.{ℕ, ◌+◌, arith, AreRoots, Same, RowMajor, height, IsExtension, CanRun, IsAnswer, FitsDft, FitsLde, IsInterpolation, IsTransform}
use Rattle.p3_dft.proofs.Names.{values_of, coefficients_same, values_unique, there_is_no_other}
use Rattle.p3_field.specs.declared.fields.Valued.{Ghosts as FieldMembers}
use Rattle.p3_dft.specs.declared.jobs.Job.{Job}
use Rattle.p3_dft.specs.declared.jobs.Job.TheVariants.{Dft, CosetDft, Idft, CosetIdft, Lde, CosetLde}

module _ {F : Type 0} (f : FieldMembers F) (generator : ℕ → F) (bits : ℕ) (are_roots : AreRoots f.ring bits (λ n. f.value (generator n))) where
  abbrev roots : ℕ → f.Element
  roots n = f.value (generator n)

  pub one_transform : (m a b : RowMajor F) (s : f.Element) → FitsDft bits (height m) m.width
      → IsTransform f generator m s a → IsTransform f generator m s b → Same (values_of f a) (values_of f b)
  one_transform m a b s fits x y =
      values_unique f.ring roots (values_of f m) fits.log s (values_of f a) (values_of f b) (x fits.log fits.height)
      (y fits.log fits.height)

  pub one_interpolation : (m a b : RowMajor F) (s : f.Element) → FitsDft bits (height m) m.width
      → IsInterpolation f generator m s a → IsInterpolation f generator m s b
      → Same (values_of f a) (values_of f b)
  one_interpolation m a b s fits x y = y.only fits.log fits.height (values_of f a) (x.holds fits.log fits.height)

  pub one_extension : (m a b : RowMajor F) (added : ℕ) (s : f.Element) → FitsLde bits (height m) m.width added
      → IsExtension f generator m added s a → IsExtension f generator m added s b
      → Same (values_of f a) (values_of f b)
  one_extension m a b added s fits x y =
      let k = fits.log in
      let same : Same y.coefficients x.coefficients =
      there_is_no_other f.ring are_roots (values_of f m) k f.ring.one (omega (arith, fits.within)) (f.ring.one, f.ring.mul_one f.ring.one)
      y.coefficients x.coefficients (y.are_coefficients k fits.height) (x.are_coefficients k fits.height) in
      values_unique f.ring roots x.coefficients (k + added) s (values_of f a) (values_of f b) (x.extended k fits.height)
      (coefficients_same f.ring roots y.coefficients x.coefficients (k + added) s (values_of f b) same (y.extended k fits.height))

  pub one_answer : (job : Job F) (a b : RowMajor F) → CanRun f bits job → IsAnswer f generator job a
      → IsAnswer f generator job b → Same (values_of f a) (values_of f b)
  one_answer (Dft m) a b can x y = one_transform m a b f.ring.one can x y
  one_answer (CosetDft m s) a b can x y = one_transform m a b (f.value s) can x y
  one_answer (Idft m) a b can x y = one_interpolation m a b f.ring.one can x y
  one_answer (CosetIdft m s) a b can x y = one_interpolation m a b (f.value s) can.0 x y
  one_answer (Lde m added) a b can x y = one_extension m a b added f.ring.one can x y
  one_answer (CosetLde m added s) a b can x y = one_extension m a b added (f.value s) can x y
