use Rattle.p3_dft.proofs.Lemmas.{[], sym, ◌∙◌, refl, append-nil, inl, le_refl, le-add_right, All-nil, IfOk-from_err, either_of, first_of, more_allowed}
use Rattle.p3_dft.proofs.Lemmas.{no_larger, one_less_fits, extended_table, same_extended, at_log, rows_padded, whole_still}
use Rattle.p3_dft.proofs.radix_2_dit_parallel.extension.coefficients_with_room.Goals as goal

pub transform-changed-requires : goal.transform-changed-requires
transform-changed-requires g c =
    c.requires.callable c.interpolate_to_reversed.new.mat (whole_still c.args.mat c.interpolate_to_reversed.new.mat
    c.log_height_lde-log_h.ensures.rows.whole c.interpolate_to_reversed.ensures.same) c.interpolate_to_reversed.ensures.same.shape

pub pad_rows-requires-clause-size : goal.pad_rows-requires-clause-size
pad_rows-requires-clause-size g c =
    let shape = c.requires.shape c.interpolate_to_reversed.new.mat c.transform-changed.result
    (whole_still c.args.mat c.interpolate_to_reversed.new.mat c.log_height_lde-log_h.ensures.rows.whole
    c.interpolate_to_reversed.ensures.same) c.interpolate_to_reversed.ensures.same.shape
    c.transform-changed.ensures in
    rw (shape.0, shape.1) c.log_height_lde-log_h.ensures.size

pub returns-in_err-make : goal.returns-in_err-make
returns-in_err-make g c =
    let err = c.from_residual.ensures.0 in
    let rows = c.log_height_lde-log_h.ensures.rows in
    record {
      few_cosets = le-add_right _ _;
      room =
          first_of _ _ _ _ (le_refl _) (extended_table c.args.added_bits _ rows.whole.width rows.height) _ _
          c.from_residual.result _ c.from_residual.ensures c.in_err-make.ensures.room;
      answer = IfOk-from_err _ _ err;
      rows = IfOk-from_err _ _ err;
      prepared = λ k high. IfOk-from_err _ _ err;
      cosets = λ k high. IfOk-from_err _ _ err;
      keeps = c.make.ensures.keeps;
      leaves =
          λ k high. record {
            only = no_larger _ _ _ (inl c.in_err-make.ensures.refused);
            adds = ([], sym (append-nil _), All-nil _);
            once = λ all. refl;
          };
      keeps_cosets = λ k s has. has;
      grows = le_refl _;
      cost = λ k high. more_allowed _ _ _ (more_allowed _ _ _ (le_refl _));
    }

pub returns-in_err-grown : goal.returns-in_err-grown
returns-in_err-grown g c =
    let err = c.from_residual-in_err-grown.ensures.0 in
    let rows = c.log_height_lde-log_h.ensures.rows in
    let changed = c.interpolate_to_reversed.ensures.same in
    let shape =
    c.requires.shape c.interpolate_to_reversed.new.mat c.transform-changed.result
    (whole_still c.args.mat c.interpolate_to_reversed.new.mat rows.whole changed) changed.shape c.transform-changed.ensures in
    record {
      few_cosets = le-add_right _ _;
      room =
          first_of _ _ _ _ (le_refl _) (same_extended c.args.added_bits shape.0 shape.1) _ _
          c.from_residual-in_err-grown.result _ c.from_residual-in_err-grown.ensures c.in_err-grown.ensures.room;
      answer = IfOk-from_err _ _ err;
      rows = IfOk-from_err _ _ err;
      prepared = λ k high. IfOk-from_err _ _ err;
      cosets = λ k high. IfOk-from_err _ _ err;
      keeps = c.make.ensures.keeps;
      leaves = at_log _ _ _ rows.height (record {
        only = no_larger _ _ _ c.make.ensures.only;
        adds = ([], sym (append-nil _), All-nil _);
        once = λ all. refl;
      });
      keeps_cosets = λ k s has. has;
      grows = c.interpolate_to_reversed.ensures.grows;
      cost = at_log _ _ _ rows.height c.interpolate_to_reversed.ensures.cost;
    }

pub returns-in_err-make_all : goal.returns-in_err-make_all
returns-in_err-make_all g c =
    let err = c.from_residual-in_err-make_all.ensures.0 in
    let rows = c.log_height_lde-log_h.ensures.rows in
    record {
      few_cosets = c.make_all.ensures.few;
      room =
          either_of _ _ _ _ (le_refl _)
          (one_less_fits _ _ (extended_table c.args.added_bits _ rows.whole.width rows.height)) _ _ _ (le_refl _)
          c.from_residual-in_err-make_all.result _ c.from_residual-in_err-make_all.ensures
          c.in_err-make_all.ensures.room;
      answer = IfOk-from_err _ _ err;
      rows = IfOk-from_err _ _ err;
      prepared = λ k high. IfOk-from_err _ _ err;
      cosets = λ k high. IfOk-from_err _ _ err;
      keeps = c.make.ensures.keeps;
      leaves = at_log _ _ _ rows.height (record {
        only = no_larger _ _ _ c.make.ensures.only;
        adds = c.make_all.ensures.only;
        once = c.make_all.ensures.once;
      });
      keeps_cosets = c.make_all.ensures.keeps;
      grows = c.interpolate_to_reversed.ensures.grows;
      cost = at_log _ _ _ rows.height c.interpolate_to_reversed.ensures.cost;
    }

-- What the transform answered lies over rows of zeros, and the tables of all slots are there.
pub returns : goal.returns
returns g c =
    let rows = c.log_height_lde-log_h.ensures.rows in
    let whole = whole_still c.args.mat c.interpolate_to_reversed.new.mat rows.whole c.interpolate_to_reversed.ensures.same in
    let shape =
    c.requires.shape c.interpolate_to_reversed.new.mat c.transform-changed.result whole
    c.interpolate_to_reversed.ensures.same.shape c.transform-changed.ensures in
    record {
      answer = record {
        told = c.interpolate_to_reversed.new.mat;
        are_coefficients = at_log _ _ _ rows.height c.interpolate_to_reversed.ensures.coefficients;
        told_whole = whole;
        answered = c.transform-changed.result;
        answered_whole = c.pad_rows.ensures.whole;
        called = c.transform-changed.ensures;
        kept = shape;
        over_zeros = c.in_ok-grown.ensures.padded;
      };
      rows = at_log _ _ _ rows.height
          (rows_padded _ _ _ _ _ c.pad_rows.ensures.whole (shape.0 ∙ rows.height) c.log_height_lde-log_h.ensures.fits_u64
          c.in_ok-grown.ensures.padded);
      prepared = at_log _ _ _ rows.height c.in_ok-make.ensures.made;
      keeps = c.make.ensures.keeps;
      leaves = at_log _ _ _ rows.height (record {
        only = no_larger _ _ _ c.make.ensures.only;
        adds = c.make_all.ensures.only;
        once = c.make_all.ensures.once;
      });
      cosets = at_log _ _ _ rows.height c.in_ok-make_all.ensures.made;
      keeps_cosets = c.make_all.ensures.keeps;
      grows = c.interpolate_to_reversed.ensures.grows;
      cost = at_log _ _ _ rows.height c.interpolate_to_reversed.ensures.cost;
      few_cosets = c.make_all.ensures.few;
      room = tt;
    }
