-- What is signed, as a value of the program.
use Rattle.fips204.specs.Framing.{plain, hashed, framed, represented}
use Rattle.fips204.specs.Framing as definition
use Rattle.fips204.specs.declared.input.Input.{Input}
use Rattle.fips204.specs.declared.input.Input.TheVariants as input

-- the input of a value
abbrev pub input_of : Input → definition.Input
input_of (input.Message message context) = plain message.now context.now
input_of (input.Digest digest context oid) = hashed digest.now context.now oid.now
input_of (input.Framed m) = framed m.now
input_of (input.Mu mu) = represented mu.now
