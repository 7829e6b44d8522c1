use Rattle.std.proofs.Common.{◌∙◌, sym, ap, ◌≡◌, List, ℕ, Ok}
use Rattle.mlsign_engine.specs.Pem.{line_end, closing}
use Rattle.mlsign_engine.specs.PemReading.{closed_at, unwrapped_at}
use Rattle.mlsign_engine.proofs.PemFiles.{pem_of_symbols}
use Rattle.mlsign_engine.proofs.pem.spelled.Goals as goal

pub returns-clause-found : goal.returns-clause-found
returns-clause-found c =
    let rest : List ℕ = c.in_ok-ending.rest.now in
    let body : List ℕ = c.in_ok-body.body.now in
    let closed : closed_at (closing c.args.kind c.in_ok-ending.ending) rest ≡ Ok body =
    ap (λ (z : List ℕ). closed_at z rest) (sym c.closing.ensures) ∙ c.in_ok-body.ensures in
    let unwrapped : unwrapped_at (line_end c.in_ok-ending.ending) body ≡ Ok c.in_ok-symbols.symbols.items =
    ap (λ (z : List ℕ). unwrapped_at z body) (sym c.characters.ensures) ∙ c.in_ok-symbols.ensures in
    pem_of_symbols c.args.kind c.args.text.now c.in_ok-ending.ending rest body c.as_slice.result.now c.decoded.result c.in_ok-ending.ensures closed
    (unwrapped ∙ ap Ok (sym c.as_slice.ensures.value)) c.decoded.ensures.encoded c.decoded.ensures.bytes
