mod AloneFacts
