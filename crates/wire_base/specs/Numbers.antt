-- The numbers and names of refusals, as reports print them.
use Rattle.std.specs.Prelude.{ℕ, List, codes}
use Rattle.wire_base.specs.declared.reason.Reason.{Reason}
use Rattle.wire_base.specs.declared.reason.Reason.TheVariants as reason
use Rattle.wire_base.specs.declared.refusal.Refusal.{Refusal}
use Rattle.wire_base.specs.declared.refusal.Refusal.TheVariants as refusal

-- the number of a reason why received bytes are refused
unfoldable pub reason_number : Reason → ℕ
reason_number reason.Unused = 1
reason_number reason.Float = 2
reason_number reason.Ext = 3
reason_number reason.BadUtf8 = 4
reason_number reason.TooDeep = 5
reason_number reason.KeyNotText = 6
reason_number reason.TooLong = 7
reason_number reason.NotJson = 8
reason_number reason.NotOneValue = 9
reason_number reason.BadCode = 10
reason_number reason.BadShape = 11
reason_number reason.BadId = 12
reason_number reason.BadSource = 13
reason_number reason.PayloadTooLong = 14
reason_number reason.BadOffer = 15
reason_number reason.BadAcceptance = 16
reason_number reason.BadProcessed = 17
reason_number reason.BadName = 18
reason_number reason.BadMagic = 20
reason_number reason.BadVersion = 21
reason_number reason.SameNonce = 22
reason_number reason.BadShape2 = 23
reason_number reason.WindowExceeded = 32
reason_number reason.OverAcknowledged = 33
reason_number reason.NotAccepted = 34
reason_number reason.AlreadyAccepted = 35
reason_number reason.ContentAfterCompletion = 36
reason_number reason.WrongSide = 37
reason_number reason.NoChannel = 40
reason_number reason.IdInUse = 41
reason_number reason.BadHeader = 50
reason_number reason.NoLength = 51
reason_number reason.LengthTooBig = 52
reason_number reason.BadLength = 53
reason_number reason.BadCharset = 54
reason_number reason.HeaderTooLong = 55
reason_number reason.NotObject = 60
reason_number reason.NotVersion2 = 61
reason_number reason.BadId62 = 62
reason_number reason.BadMethod = 63
reason_number reason.BadParams = 64
reason_number reason.BothOrNeither = 65
reason_number reason.BadError = 66
reason_number reason.Batch = 67
reason_number reason.DuplicateRequest = 72

-- its name, which two reasons may share
unfoldable pub reason_name : Reason → List ℕ
reason_name reason.Unused = codes "Unused"
reason_name reason.Float = codes "Float"
reason_name reason.Ext = codes "Ext"
reason_name reason.BadUtf8 = codes "BadUtf8"
reason_name reason.TooDeep = codes "TooDeep"
reason_name reason.KeyNotText = codes "KeyNotText"
reason_name reason.TooLong = codes "TooLong"
reason_name reason.NotJson = codes "NotJson"
reason_name reason.NotOneValue = codes "NotOneValue"
reason_name reason.BadCode = codes "BadCode"
reason_name reason.BadShape = codes "BadShape"
reason_name reason.BadId = codes "BadId"
reason_name reason.BadSource = codes "BadSource"
reason_name reason.PayloadTooLong = codes "PayloadTooLong"
reason_name reason.BadOffer = codes "BadOffer"
reason_name reason.BadAcceptance = codes "BadAcceptance"
reason_name reason.BadProcessed = codes "BadProcessed"
reason_name reason.BadName = codes "BadName"
reason_name reason.BadMagic = codes "BadMagic"
reason_name reason.BadVersion = codes "BadVersion"
reason_name reason.SameNonce = codes "SameNonce"
reason_name reason.BadShape2 = codes "BadShape"
reason_name reason.WindowExceeded = codes "WindowExceeded"
reason_name reason.OverAcknowledged = codes "OverAcknowledged"
reason_name reason.NotAccepted = codes "NotAccepted"
reason_name reason.AlreadyAccepted = codes "AlreadyAccepted"
reason_name reason.ContentAfterCompletion = codes "ContentAfterCompletion"
reason_name reason.WrongSide = codes "WrongSide"
reason_name reason.NoChannel = codes "NoChannel"
reason_name reason.IdInUse = codes "IdInUse"
reason_name reason.BadHeader = codes "BadHeader"
reason_name reason.NoLength = codes "NoLength"
reason_name reason.LengthTooBig = codes "LengthTooBig"
reason_name reason.BadLength = codes "BadLength"
reason_name reason.BadCharset = codes "BadCharset"
reason_name reason.HeaderTooLong = codes "HeaderTooLong"
reason_name reason.NotObject = codes "NotObject"
reason_name reason.NotVersion2 = codes "NotVersion2"
reason_name reason.BadId62 = codes "BadId"
reason_name reason.BadMethod = codes "BadMethod"
reason_name reason.BadParams = codes "BadParams"
reason_name reason.BothOrNeither = codes "BothOrNeither"
reason_name reason.BadError = codes "BadError"
reason_name reason.Batch = codes "Batch"
reason_name reason.DuplicateRequest = codes "DuplicateRequest"

-- the number of a reason why a local call is refused
unfoldable pub refusal_number : Refusal → ℕ
refusal_number refusal.NotOpen = 30
refusal_number refusal.WritingDone = 31
refusal_number refusal.NotAccepted = 34
refusal_number refusal.AlreadyAccepted = 35
refusal_number refusal.WrongSide = 37
refusal_number refusal.WindowsSpent = 38
refusal_number refusal.BytesSpent = 39
refusal_number refusal.NoChannel = 40
refusal_number (refusal.Ended cause) = 42
refusal_number refusal.TooManyChannels = 43
refusal_number refusal.Stopped = 44
refusal_number refusal.TooManyOffers = 45
refusal_number refusal.NameTooLong = 46
refusal_number refusal.BadWindow = 47
refusal_number refusal.NotReady = 48
refusal_number refusal.Attached = 49
refusal_number refusal.NoRequest = 70
refusal_number refusal.AlreadyCancelled = 71
refusal_number refusal.NoToken = 73
refusal_number refusal.NoEnumerable = 74
refusal_number refusal.NextOutstanding = 75
refusal_number refusal.NoHandle = 76
refusal_number refusal.Released = 77
refusal_number refusal.BytesInJson = 78
refusal_number refusal.TooDeep = 79
refusal_number refusal.BodyTooLong = 80
refusal_number refusal.NotAttached = 81
refusal_number refusal.ReservedMethod = 82
refusal_number refusal.NeedsRequest = 83
refusal_number refusal.TooManyRequests = 85
refusal_number refusal.TooManyHandles = 86
refusal_number refusal.TooManySequences = 87
refusal_number refusal.ReservedMember = 88
refusal_number refusal.BadPage = 89

-- its name
unfoldable pub refusal_name : Refusal → List ℕ
refusal_name refusal.NotOpen = codes "NotOpen"
refusal_name refusal.WritingDone = codes "WritingDone"
refusal_name refusal.NotAccepted = codes "NotAccepted"
refusal_name refusal.AlreadyAccepted = codes "AlreadyAccepted"
refusal_name refusal.WrongSide = codes "WrongSide"
refusal_name refusal.WindowsSpent = codes "WindowsSpent"
refusal_name refusal.BytesSpent = codes "BytesSpent"
refusal_name refusal.NoChannel = codes "NoChannel"
refusal_name (refusal.Ended cause) = codes "Ended"
refusal_name refusal.TooManyChannels = codes "TooManyChannels"
refusal_name refusal.Stopped = codes "Stopped"
refusal_name refusal.TooManyOffers = codes "TooManyOffers"
refusal_name refusal.NameTooLong = codes "NameTooLong"
refusal_name refusal.BadWindow = codes "BadWindow"
refusal_name refusal.NotReady = codes "NotReady"
refusal_name refusal.Attached = codes "Attached"
refusal_name refusal.NoRequest = codes "NoRequest"
refusal_name refusal.AlreadyCancelled = codes "AlreadyCancelled"
refusal_name refusal.NoToken = codes "NoToken"
refusal_name refusal.NoEnumerable = codes "NoEnumerable"
refusal_name refusal.NextOutstanding = codes "NextOutstanding"
refusal_name refusal.NoHandle = codes "NoHandle"
refusal_name refusal.Released = codes "Released"
refusal_name refusal.BytesInJson = codes "BytesInJson"
refusal_name refusal.TooDeep = codes "TooDeep"
refusal_name refusal.BodyTooLong = codes "BodyTooLong"
refusal_name refusal.NotAttached = codes "NotAttached"
refusal_name refusal.ReservedMethod = codes "ReservedMethod"
refusal_name refusal.NeedsRequest = codes "NeedsRequest"
refusal_name refusal.TooManyRequests = codes "TooManyRequests"
refusal_name refusal.TooManyHandles = codes "TooManyHandles"
refusal_name refusal.TooManySequences = codes "TooManySequences"
refusal_name refusal.ReservedMember = codes "ReservedMember"
refusal_name refusal.BadPage = codes "BadPage"
