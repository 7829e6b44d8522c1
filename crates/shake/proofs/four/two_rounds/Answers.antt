use Rattle.std.proofs.Common.{◌≡◌, ◌≢◌, ◌<◌, ℕ, List, [], ◌∷◌, ap, ◌∙◌, inl, inr, get_or, slice_index, arith}
use Rattle.std.proofs.lemmas.Bool.{cases_eq}
use Rattle.shake.specs.Four.{state_at, with_plane}
use Rattle.shake.specs.Keccak.{◌⊕◌, theta, rho, pi, round}
use Rattle.shake.proofs.Planes.{planes_written}
use Rattle.shake.proofs.four.two_rounds.Goals as goal

pub loop-j-preserved : goal.loop-j-preserved
loop-j-preserved c =
    let n = c.loop-j.j in
    let before = c.loop-j.states in
    let after = c.write_plane-in-loop-j-4.new.states in
    let twice : List ℕ → List ℕ = λ s. round (round s c.args.first) c.args.second in
    let others : (i : ℕ) → i < 4 → i ≢ n → state_at after i ≡ state_at before i = λ i h other.
    c.write_plane-in-loop-j-4.ensures.others i h other
    ∙ c.write_plane-in-loop-j-3.ensures.others i h other
    ∙ c.write_plane-in-loop-j-2.ensures.others i h other
    ∙ c.write_plane-in-loop-j.ensures.others i h other
    ∙ c.write_plane.ensures.others i h other in
    let a = c.round-a.result in
    let first = c.plane.result in
    let top = (slice_index first 0 ⊕ c.args.second) ∷ slice_index first 1 ∷ slice_index first 2 ∷ slice_index first 3 ∷ slice_index first 4 ∷ [] in
    let planes : with_plane (with_plane (with_plane (with_plane (with_plane (state_at before n) 0 top) 1 c.plane-in-loop-j.result) 2 c.plane-in-loop-j-2.result) 3 c.plane-in-loop-j-3.result) 4 c.plane-in-loop-j-4.result ≡ round a c.args.second =
    rw (c.plane.ensures, c.plane-in-loop-j.ensures, c.plane-in-loop-j-2.ensures, c.plane-in-loop-j-3.ensures, c.plane-in-loop-j-4.ensures)
    (planes_written (λ i. slice_index (get_or before i []) n) (pi (rho (theta a))) c.args.second) in
    let this : state_at after n ≡ twice (state_at before n) =
    c.write_plane-in-loop-j-4.ensures.written
    ∙ ap (λ s. with_plane s 4 c.plane-in-loop-j-4.result) (c.write_plane-in-loop-j-3.ensures.written
    ∙ ap (λ s. with_plane s 3 c.plane-in-loop-j-3.result) (c.write_plane-in-loop-j-2.ensures.written
    ∙ ap (λ s. with_plane s 2 c.plane-in-loop-j-2.result) (c.write_plane-in-loop-j.ensures.written
    ∙ ap (λ s. with_plane s 1 c.plane-in-loop-j.result) c.write_plane.ensures.written)))
    ∙ planes
    ∙ ap (λ s. round s c.args.second) (c.round-a.ensures ∙ ap (λ s. round s c.args.first) c.state_at.ensures) in
    record {
      four = c.write_plane-in-loop-j-4.ensures.four;
      done = λ i h. elim (cases_eq i n) [
        | inl same ↦ rw same (this ∙ ap twice (c.loop-j.invariant.left n (omega arith) c.loop-j-test.true))
        | inr other ↦ others i (omega (arith, h, c.loop-j-test.true)) other ∙ c.loop-j.invariant.done i (omega (arith, h, other))
      ];
      left = λ i from h. others i h (λ same. omega (arith, from, same)) ∙ c.loop-j.invariant.left i (omega (arith, from)) h;
    }
