-- What is wrong with a line, in words.
use Rattle.std.specs.Prelude.{ℕ, List, codes}
use Rattle.console.specs.declared.fault.Fault.{Fault}
use Rattle.console.specs.declared.fault.Fault.TheVariants.{Command, NoLine, NoLink, Nothing, Store, K, D, T, Way, End, Kind, Ns, Nr, B, Octets, Place, Start, Mask, TooMany}

abbrev pub words_of : Fault → List ℕ
words_of Command = codes "no such command"
words_of NoLine = codes "no line stands"
words_of NoLink = codes "no link stands"
words_of Nothing = codes "no line or link stands"
words_of Store = codes "the line must be table or octet"
words_of K = codes "K must be a decimal number below 2^64"
words_of D = codes "D must be a decimal number below 2^64"
words_of T = codes "T must be a decimal number below 2^64"
words_of Way = codes "the way must be 1 or 2"
words_of End = codes "the end must be primary or secondary"
words_of Kind = codes "the kind must be I, RR, RNR, SARM, DISC, UA or DM"
words_of Ns = codes "N(S) must be a decimal number from 0 to 255"
words_of Nr = codes "N(R) must be a decimal number from 0 to 255"
words_of B = codes "B must be a decimal number from 0 to 255"
words_of Octets = codes "octets must be an even number of hexadecimal digits, or '-' for none"
words_of Place = codes "the place must be a decimal number below 2^64"
words_of Start = codes "the start must be a decimal number below 2^64"
words_of Mask = codes "the mask must be a decimal number from 0 to 65535"
words_of TooMany = codes "too many words"
