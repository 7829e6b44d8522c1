use Rattle.std.proofs.Common.{◌≡◌, Ok, refl, rules}
use Rattle.fips204_shake.specs.Keys.{file_parts}
use Rattle.mlsign_engine.specs.Forms.{HasPrivate}
use Rattle.mlsign_engine.specs.declared.forms.Form.TheVariants.{Pem, Der, Raw}
use Rattle.mlsign_engine.proofs.FormFiles.{if_no_keys}
use Rattle.mlsign_engine.proofs.forms.read_private_key.Goals as goal

pub returns-in_ok-set-in-Pem-clause-fault : goal.returns-in_ok-set-in-Pem-clause-fault
returns-in_ok-set-in-Pem-clause-fault c =
    let parts = file_parts c.in_ok-set-in-Pem.key in
    let read : c.read_private.result ≡ Ok (c.in_ok-set-in-Pem.set, c.in_ok-set-in-Pem.key) = search rules in
    let has : HasPrivate Pem c.args.set c.args.file.now c.in_ok-set-in-Pem.set parts = (
      record {
        der = c.in_ok-der-in-Pem.der.items;
        spelled = rw (c.as_slice.ensures.value, c.in_ok-text-in-Pem.ensures.form) at c.in_ok-der-in-Pem.ensures.found;
        file = rw (read, c.as_slice-in-Pem.ensures.value) at c.read_private.ensures.found;
      },
      tt,
    ) in
    rw c.in-Pem.is (if_no_keys Pem c.args.set c.in_ok-set-in-Pem.set c.args.file.now parts c.of_parts.result has c.of_parts.ensures.fault)

pub returns-in_ok-set-in-Der-clause-fault : goal.returns-in_ok-set-in-Der-clause-fault
returns-in_ok-set-in-Der-clause-fault c =
    let read : c.read_private-in-Der.result ≡ Ok (c.in_ok-set-in-Der.set, c.in_ok-set-in-Der.key) = search rules in
    rw c.in-Der.is (if_no_keys Der c.args.set c.in_ok-set-in-Der.set c.args.file.now (file_parts c.in_ok-set-in-Der.key) c.of_parts-in-Der.result
    (rw read at c.read_private-in-Der.ensures.found, tt) c.of_parts-in-Der.ensures.fault)

pub returns-in_ok-raw_parts-in-Raw-clause-fault : goal.returns-in_ok-raw_parts-in-Raw-clause-fault
returns-in_ok-raw_parts-in-Raw-clause-fault c =
    rw c.in-Raw.is (if_no_keys Raw c.args.set c.args.set c.args.file.now (file_parts c.in_ok-raw_parts-in-Raw.field-0) c.of_parts-in-Raw.result
    ((c.in_ok-raw_parts-in-Raw.ensures.sizes, c.in_ok-raw_parts-in-Raw.ensures.raw), refl) c.of_parts-in-Raw.ensures.fault)
